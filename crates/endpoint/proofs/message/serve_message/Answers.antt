use Rattle.std.proofs.Common.{rules, ◌≡◌, ℕ, vec_items}
use Rattle.router.specs.Model.{model}
use Rattle.endpoint.specs.Frames.{saying, switch_below}
use Rattle.endpoint.proofs.message.serve_message.Goals as goal

pub returns-in_err-write_said-clause-memory : goal.returns-in_err-write_said-clause-memory
returns-in_err-write_said-clause-memory c =
    let heard = saying (model c.hear.new.self) (vec_items c.hear.new.said) in
    let settled = saying (model c.settle.new.router) (vec_items c.settle.new.said) in
    let part : (k : ℕ) × (settled ≡ switch_below k heard) = (_, c.in_ok-settle.ensures.switches) in
    search (rules, part)
