use Rattle.std.proofs.Common.{◌≡◌, ltb, length, ap, ◌∙◌, ap₂, rules}
use Rattle.arrayvec.proofs.ArrayVecLemmas.{filter-from_retain}
use Rattle.catalogue.specs.Lists.{without}
use Rattle.catalogue.proofs.Listed.{shorter_without}
use Rattle.catalogue.proofs.holds.HeldList.remove.Goals as goal

pub returns : goal.returns
returns c =
    let xs = c.args.self.now.list.items in
    let p = c.args.p in
    let rest : c.retain.new.self.items ≡ without p xs = filter-from_retain _ _ _ (λ x b f' y called. search rules) _ _ c.retain.ensures.filtered in
    let before = c.len-before.ensures in
    record {
      found = ap₂ ltb (c.len.ensures.value ∙ ap length rest) before.value ∙ shorter_without p xs;
      rest = rest;
    }
