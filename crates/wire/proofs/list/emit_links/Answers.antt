use Rattle.std.proofs.Common.{◌≡◌, ℕ, ◌<◌, ◌≤◌, ◌/◌, ◌%◌, true, List, length, vec_items, ap, ◌∙◌, arith}
use Rattle.std.proofs.lemmas.List.{take_all}
use Rattle.types.specs.declared.link.Link.{Link}
use Rattle.links.specs.Links.{start, rising, IsNodeCount}
use Rattle.links.proofs.Lawful.{rising_few}
use Rattle.wire.specs.Lists.{list_bytes, list_in, listing_of}
use Rattle.wire.proofs.ListBytes.{list_back}
use Rattle.wire.proofs.list.emit_links.Goals as goal

-- the number of links is one of two bytes
few_links : (n : ℕ) (ls : List Link) → n ≤ 64 → rising n ls ≡ true → length ls < 4096
few_links n ls h t = omega (arith, rising_few n start ls h (omega arith) (omega arith) t)

pub overflow_cast-links : goal.overflow_cast-links
overflow_cast-links c =
    let n = c.nodes-nodes.result in
    let ls = c.links-links.result.now in
    let o : rising n ls ≡ true = rw c.nodes-nodes.ensures.value c.links-links.ensures.ordered in
    record { fits = omega (arith, few_links n ls c.nodes-nodes.ensures.bounds.1 o) }

pub returns : goal.returns
returns c =
    let x = listing_of c.args.topology.now in
    let ls = c.links-links.result.now in
    let o : rising x.nodes x.links ≡ true = rw (← c.links-links.ensures.value) c.links-links.ensures.ordered in
    let b : IsNodeCount x.nodes = rw (← c.nodes-nodes.ensures.value) c.nodes-nodes.ensures.bounds in
    let few = few_links x.nodes ls b.1 c.links-links.ensures.ordered in
    let high : length ls / 256 % 256 ≡ length ls / 256 = omega (arith, few) in
    let all = take_all c.loop-link.link-index ls c.loop-link-test.false in
    let begun = c.in_ok-extend_from_slice.ensures.items in
    let v : vec_items c.loop-link.out ≡ list_bytes x = rw (
      c.loop-link.invariant,
      begun,
      c.new-out.ensures.items,
      c.to_be_bytes.ensures,
      high,
      all,
      c.nodes-nodes.ensures.value,
      c.links-links.ensures.value,
    ) in
    record { value = v; back = ap list_in v ∙ list_back x b o }
