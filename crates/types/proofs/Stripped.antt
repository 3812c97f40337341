-- Own node segments, one after another.
use Rattle.std.proofs.Common.{◌≡◌, ℕ, true, false, List, [], ◌∷◌, drop, sym, refl, ap, ◌∙◌, rules}
use Rattle.types.specs.Packet.{Packet, with_segments, behind_first, stripped}
use Rattle.types.specs.Segments.{strip, own_in}
use Rattle.types.specs.declared.segment.Segment.{Segment}
use Rattle.types.specs.declared.segment.Segment.TheVariants.{Node, Link}

own : (u : ℕ) (ss : List Segment) → true ≡ own_in u ss → strip u (drop 1 ss) ≡ strip u ss
unfolding strip
own u [] h = search rules
own u (Node x ∷ ss) h = search rules
own u (Link a b ∷ ss) h = search rules

other : (u : ℕ) (ss : List Segment) → false ≡ own_in u ss → ss ≡ strip u ss
unfolding strip
other u [] h = refl
other u (Node x ∷ ss) h = search rules
other u (Link a b ∷ ss) h = refl

-- the first one is taken off, and so on
pub strips_on : (u : ℕ) (p p' q : Packet) (ss : List Segment) → ss ≡ p.segments → true ≡ own_in u ss →
    p' ≡ behind_first p → q ≡ stripped u p' → q ≡ stripped u p
strips_on u p p' q ss e h l k =
    let same = ap (λ rest. strip u (drop 1 rest)) (sym e) ∙ (own u ss h ∙ ap (strip u) e) in
    k ∙ (ap (stripped u) l ∙ ap (with_segments p) same)

-- there is none to take off
pub strips_none : (u : ℕ) (p : Packet) (ss : List Segment) → ss ≡ p.segments → false ≡ own_in u ss → p ≡ stripped u p
strips_none u p ss e h = ap (with_segments p) (sym e ∙ (other u ss h ∙ ap (strip u) e))
