-- Sort in the first records of more.
use Rattle.std.proofs.Common.{◌≡◌, ℕ, ◌<◌, ◌≤◌, List, ◌++◌, map, length, take, drop, sym, ap, ◌∙◌, arith}
use Rattle.std.proofs.lemmas.List.{take-append-drop, take-append-le, drop-append-le, length-take-le, get_or_append_left}
use Rattle.paths.specs.Chains.{Mem}
use Rattle.paths.specs.declared.arc.Arc.{Arc}
use Rattle.graphs.specs.Records.{of, blank, Ranked, Sorted}
use Rattle.graphs.specs.declared.record.PackageRecord.{PackageRecord}

module _ {K : Type 0} (arcs : List (Arc K)) (n : ℕ) (ends : (a : Arc K) → Mem a arcs → (a.from < n) × (a.to < n)) where
  -- ranks are of the packages below n
  pub ranked_as : (rank other : ℕ → ℕ) → ((p : ℕ) → p < n → rank p ≡ other p) → Ranked arcs n rank → Ranked arcs n other
  ranked_as rank other same r = record {
    below = λ p h. omega (arith, r.below p h, same p h);
    used = λ k h. let u = r.used k h in (u.0, u.1, sym (same u.0 u.1) ∙ u.2);
    same = λ p q hp hq e. sym (same p hp) ∙ r.same p q hp hq e ∙ same q hq;
    apart = λ p q hp hq e. r.apart p q hp hq (same p hp ∙ e ∙ sym (same q hq));
    falls = λ a h ne. let e = ends a h in omega (arith, r.falls a h ne, same a.from e.0, same a.to e.1);
  }

  -- of the first k records, with the others behind them
  module _ (k : ℕ) (old part : List PackageRecord) (le : n ≤ k) (within : k ≤ length old) (long : length part ≡ k) where
    pub first_part : take n (part ++ drop k old) ≡ take n part
    first_part = take-append-le n part (drop k old) (omega (arith, long, le))

    pub beyond_part : drop n part ≡ drop n (take k old) → drop n (part ++ drop k old) ≡ drop n old
    beyond_part beyond =
        drop-append-le n part (drop k old) (omega (arith, long, le)) ∙ ap (λ r. r ++ drop k old) beyond
        ∙ sym (drop-append-le n (take k old) (drop k old) (omega (arith, length-take-le k old within, le)))
        ∙ ap (drop n) (take-append-drop k old)

    pub ranks_part : Ranked arcs n (λ p. (of part p).rank) → Ranked arcs n (λ p. (of (part ++ drop k old) p).rank)
    ranks_part =
        ranked_as (λ p. (of part p).rank) (λ p. (of (part ++ drop k old) p).rank)
        (λ p h. ap (λ r. r.rank) (sym (get_or_append_left part (drop k old) blank p (omega (arith, long, le, h)))))

    pub sorted_part : Sorted arcs n (take k old) part → Sorted arcs n old (part ++ drop k old)
    sorted_part s = record {
      groups = ap (map (λ r. r.group)) first_part ∙ s.groups;
      waves = ap (map (λ r. r.wave)) first_part ∙ s.waves;
      beyond = beyond_part s.beyond;
      ranks = ranks_part s.ranks;
    }
