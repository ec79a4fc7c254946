-- The reckoning, call by call.
use Rattle.std.proofs.Common.{◌≡◌, ℕ, ◌+◌, ◌<◌, List, [], ◌∷◌, ◌++◌, length, get_or, take, sym, refl, ap, ◌∙◌}
use Rattle.std.proofs.lemmas.List.{take_more}
use Rattle.labels.specs.Algebra.{Ops}
use Rattle.catalogue.specs.Meanings.{Meaning}
use Rattle.catalogue.specs.declared.call.Call.{Call}
use Rattle.catalogue.specs.Runs.{step, reckon}

module _ {L : Type 0} (o : Ops L) where
  reckon_push : (m : Meaning L) (cs : List (Call L)) (c : Call L) → reckon o m (cs ++ (c ∷ [])) ≡ step o (reckon o m cs) c
  reckon_push m [] c = refl
  reckon_push m (d ∷ cs) c = reckon_push (step o m d) cs c

  pub reckon_more : (m : Meaning L) (cs : List (Call L)) (i : ℕ) (c : Call L) → i < length cs → c ≡ get_or cs i c → step o (reckon o m (take i cs)) c ≡ reckon o m (take (i + 1) cs)
  reckon_more m cs i c h e = sym (ap (reckon o m) (take_more cs i c h ∙ ap (λ d. take i cs ++ (d ∷ [])) (sym e)) ∙ reckon_push m (take i cs) c)
