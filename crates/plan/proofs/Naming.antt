-- The names of ranks, from the records of packages.
use Rattle.std.proofs.Common.{◌≡◌, ℕ, ◌<◌, ◌≤◌, List, length, get_or, sym, ap, ◌∙◌, subst, arith}
use Rattle.graphs.specs.Records.{of}
use Rattle.graphs.specs.declared.record.PackageRecord.{PackageRecord}
use Rattle.plans.specs.Steps.{Named}
use Rattle.plan.specs.Tables.{Names}

module _ (records : List PackageRecord) (names : List ℕ) (n g : ℕ) (is : Names records names) (all : n ≡ length records) (long : g ≤ length names)
    (used : (k : ℕ) → k < g → (p : ℕ) × (p < length records) × ((of records p).rank ≡ k))
    (apart : (p q : ℕ) → p < length records → q < length records → (of records p).group ≡ (of records q).group → (of records p).rank ≡ (of records q).rank)
    (inside : (p : ℕ) → p < length records → (of records p).group < length records) where
  -- the name of a rank is that of the package that has it
  name_of : (t : ℕ) (h : t < g) → get_or names t 0 ≡ (of records (used t h).0).group
  name_of t h = let u = used t h in ap (λ x. get_or names x 0) (sym u.2) ∙ is u.0 u.1

  pub named_by : Named names n g
  named_by = record {
    long = long;
    inside = λ t h. let u = used t h in omega (arith, name_of t h, inside u.0 u.1, all);
    apart = λ t u h k e.
        let p = used t h in
        let q = used u k in
        sym p.2 ∙ apart p.0 q.0 p.1 q.1 (sym (name_of t h) ∙ e ∙ name_of u k) ∙ q.2;
  }
