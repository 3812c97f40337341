use Rattle.std.proofs.Common.{◌≡◌, ◌<◌, length, inl, inr, rules, arith}
use Rattle.router.proofs.KnownDown.{old_within, laid_at}
use Rattle.router.proofs.router.Router.repair.Goals as goal
use Rattle.router.specs.Model.{model}

pub bounds-self-cell : goal.bounds-self-cell
bounds-self-cell c =
    let r = c.args.self.now in
    let w = old_within (model r) (r.routes.costs.lawful) c.args.hop c.args.aim c.requires.hop c.requires.down in
    omega (arith, w.0, w.1, r.routes.costs.few.1, c.cell.ensures)

pub listed : goal.listed
listed c =
    let r = c.args.self.now in
    let w = old_within (model r) (r.routes.costs.lawful) c.args.hop c.args.aim c.requires.hop c.requires.down in
    let l : length r.repairs ≡ 4096 = search rules in
    omega (arith, w.0, w.1, r.routes.costs.few.1, c.cell.ensures, l)

pub returns-in-Via : goal.returns-in-Via
returns-in-Via c =
    let r = c.args.self.now in
    let w = old_within (model r) (r.routes.costs.lawful) c.args.hop c.args.aim c.requires.hop c.requires.down in
    let b : c.cell.result < length r.repairs = let l : length r.repairs ≡ 4096 = search rules in omega (arith, w.0, w.1, r.routes.costs.few.1, c.cell.ensures, l) in
    laid_at (model r) (r.routes.costs.lawful) r.repairs r.repaired c.args.hop c.args.aim c.requires.hop c.requires.down c.cell.result _ _ c.cell.ensures b c.in-Via.is

pub returns-in-Apart : goal.returns-in-Apart
returns-in-Apart c =
    let r = c.args.self.now in
    let w = old_within (model r) (r.routes.costs.lawful) c.args.hop c.args.aim c.requires.hop c.requires.down in
    let b : c.cell.result < length r.repairs = let l : length r.repairs ≡ 4096 = search rules in omega (arith, w.0, w.1, r.routes.costs.few.1, c.cell.ensures, l) in
    let at = laid_at (model r) (r.routes.costs.lawful) r.repairs r.repaired c.args.hop c.args.aim c.requires.hop c.requires.down c.cell.result _ in
    elim c.in-Apart.is [
      | inl e ↦ at _ c.cell.ensures b e
      | inr e ↦ at _ c.cell.ensures b e
    ]
