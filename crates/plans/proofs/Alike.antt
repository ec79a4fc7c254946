-- Catalogues that are alike are closed, sorted and planned alike.
use Rattle.std.proofs.Common.{◌≡◌, ℕ, suc, true, cond, ◌&&◌, List, [], ◌∷◌, map, Ok, Err, Result, is_ok, refl, sym, ap, ap₂, ◌∙◌, inl, inr, ⊎_elim, leb}
use Rattle.std.specs.Cmp.{both_ways}
use Rattle.std.specs.List.{range_with_len}
use Rattle.std.proofs.lemmas.Bool.{and_parts, and_from}
use Rattle.labels.specs.Algebra.{Ops, Laws}
use Rattle.paths.specs.Chains.{Mem}
use Rattle.paths.specs.Tables.{table, every, first_from, rounds_made}
use Rattle.paths.specs.Groups.{groups, group_count, looped}
use Rattle.paths.proofs.Groups.{grouped, loop_told}
use Rattle.paths.proofs.Perms.{L_perm}
use Rattle.catalogue.specs.Meanings.{Meaning, Sound, in_force}
use Rattle.catalogue.specs.Refusals.{then}
use Rattle.tables.specs.Closings.{labels}
use Rattle.graphs.proofs.Edges.{ends}
use Rattle.plans.specs.Plans.{wave_of, bytes, counts}
use Rattle.plans.specs.Answers.{package_answer, changed_answer}
use Rattle.plans.specs.Laws.{Alike}
use Rattle.plans.specs.Alike.{AlikeMeanings, AlikePlans}
use Rattle.plans.proofs.Unmoved.{same_plan}

ok_then : (r s : Result (Unit {0}) ℕ) → is_ok (then r (λ _. s)) ≡ (is_ok r && is_ok s)
ok_then (Ok v) s = refl
ok_then (Err k) s = refl

-- a list is taken exactly where each of its packages is
module _ {K : Type 0} (m : Meaning K) where
  taken : (xs : List ℕ) → is_ok (changed_answer m xs) ≡ true → (p : ℕ) → Mem p xs → is_ok (package_answer m p) ≡ true
  taken [] e p h = elim h [ ]
  taken (x ∷ xs) e p h =
      let both = and_parts (is_ok (package_answer m x)) (is_ok (changed_answer m xs)) (sym (ok_then (package_answer m x) (changed_answer m xs)) ∙ e) in
      ⊎_elim (λ is. ap (λ y. is_ok (package_answer m y)) is ∙ both.0) (λ more. taken xs both.1 p more) h

  takes : (xs : List ℕ) → ((p : ℕ) → Mem p xs → is_ok (package_answer m p) ≡ true) → is_ok (changed_answer m xs) ≡ true
  takes [] all = refl
  takes (x ∷ xs) all =
      ok_then (package_answer m x) (changed_answer m xs)
      ∙ and_from (is_ok (package_answer m x)) (is_ok (changed_answer m xs)) (all x (inl refl)) (takes xs (λ p h. all p (inr h)))

module _ {K : Type 0} (o : Ops K) (m m' : Meaning K) (alike : AlikeMeanings m m') where
  module _ (laws : Laws o) where
    pub labels_alike : labels o m ≡ labels o m'
    labels_alike i = table (alike.n i) (λ a b. L_perm o laws (in_force m) (in_force m') alike.arcs (alike.n i) a b i)

    pub rounds_alike : rounds_made o (in_force m) m.n ≡ rounds_made o (in_force m') m'.n
    rounds_alike i =
        first_from (λ k. every (λ a. every (λ b. o.same (at (suc k) a b) (at k a b)) (alike.n i)) (alike.n i)) (alike.n i) 1
      where
        at : ℕ → ℕ → ℕ → K
        at k a b = L_perm o laws (in_force m) (in_force m') alike.arcs k a b i

  module _ (sound : Sound o m) where
    pub looped_alike : looped (in_force m) m.n ≡ looped (in_force m') m'.n
    looped_alike = (loop_told (in_force m) m.n (ends m o sound)).any_order (in_force m') alike.arcs ∙ ap (looped (in_force m')) alike.n

    pub groups_alike : groups (in_force m) m.n ≡ groups (in_force m') m'.n
    groups_alike = (grouped (in_force m) m.n (ends m o sound)).any_order (in_force m') alike.arcs ∙ ap (groups (in_force m')) alike.n

    pub group_count_alike : group_count (in_force m) m.n ≡ group_count (in_force m') m'.n
    group_count_alike = (grouped (in_force m) m.n (ends m o sound)).count_any_order (in_force m') alike.arcs ∙ ap (group_count (in_force m')) alike.n

    pub plan_alike : (changed again : List ℕ) → Alike changed again → AlikePlans m m' changed again
    plan_alike changed again sets =
        let s = same_plan (in_force m) m.n (ends m o sound) changed (in_force m') again alike.arcs sets in
        record {
          bytes = s.bytes ∙ ap (λ n. bytes (in_force m') n again) alike.n;
          waves =
              ap (λ (f : ℕ → ℕ). map f (range_with_len 0 m.n)) (λ i p. s.waves p i)
              ∙ ap (λ n. map (wave_of (in_force m') n again) (range_with_len 0 n)) alike.n;
          counts = s.counts ∙ ap (λ n. counts (in_force m') n again) alike.n;
        }

  package_alike : (p : ℕ) → package_answer m p ≡ package_answer m' p
  package_alike p = ap₂ (λ n b. cond (leb n p) (Err 6) (cond b (Err 15) (Ok tt))) alike.n (alike.held p)

  pub changed_alike : (changed again : List ℕ) → Alike changed again → is_ok (changed_answer m changed) ≡ is_ok (changed_answer m' again)
  changed_alike changed again sets =
      both_ways (is_ok (changed_answer m changed)) (is_ok (changed_answer m' again))
      (λ e. takes m' again (λ p h. sym (ap is_ok (package_alike p)) ∙ taken m changed e p (sets.1 p h)))
      (λ e. takes m changed (λ p h. ap is_ok (package_alike p) ∙ taken m' again e p (sets.0 p h)))
