-- What is read of a message was written so.
use Rattle.std.proofs.Common.{◌≡◌, ℕ, List, [], ◌++◌, None, Ok, sym, ap, ◌∙◌, append-nil, rules}
use Rattle.types.specs.declared.message.Message.{Message}
use Rattle.types.specs.declared.message.Message.TheVariants.{LinkDown, Switched}
use Rattle.wire.specs.Messages.{ordered, bytes_of, message_bytes, message_at, message_fault}

fine_ordered : (n : ℕ) (m : Message) → message_fault n m ≡ None → ordered m ≡ m
fine_ordered n (LinkDown l) e = search rules
fine_ordered n (Switched m) e = search rules

message_spelled : (bs : List ℕ) (p : Message × List ℕ) → message_at bs ≡ Ok p → (bytes_of p.0 ++ p.1) ≡ bs
message_spelled bs p e = search rules

pub message_read : (n : ℕ) (bs rest : List ℕ) (m : Message) → message_at bs ≡ Ok (m, rest) → message_fault n m ≡ None →
    rest ≡ [] → message_bytes m ≡ bs
message_read n bs rest m e f z =
    ap bytes_of (fine_ordered n m f) ∙
    (sym (append-nil (bytes_of m)) ∙ (ap (λ r. bytes_of m ++ r) (sym z) ∙ message_spelled bs (m, rest) e))
