-- A search at rest: at its start, after each visit, and once it has marked every package.
use Rattle.std.proofs.Common.{◌≡◌, ℕ, ◌+◌, ◌<◌, ◌≤◌, List, length, get_or, sym, ◌∙◌, subst, ⊎_elim, arith}
use Rattle.std.proofs.lemmas.List.{get_or_past}
use Rattle.std.proofs.lemmas.Bool.{cases_lt}
use Rattle.graphs.specs.Searches.{Graph, Edge, Reach, here, step, white, Marked, Run, Closed, Grown, Whole, Finished}
use Rattle.graphs.proofs.Grow.{reach_map, run_kept}
use Rattle.graphs.proofs.White.{white_none}

-- what has a mark is a package
pub marked_inside : (m : List ℕ) (v : ℕ) → Marked m v → v < length m
marked_inside m v h = ⊎_elim (λ lt. lt) (λ ge. absurd (omega (arith, get_or_past m v 0 ge))) (cases_lt v (length m))

pub reach_closed : {E : ℕ → ℕ → Type 0} {p q : ℕ} → (m : List ℕ) → ((a b : ℕ) → Marked m a → E a b → Marked m b) → Reach E p q → Marked m p → Marked m q
reach_closed m closed here h = h
reach_closed m closed (step {p} {q} e r) h = reach_closed m closed r (closed p q h e)

pub whole_edge : (E : ℕ → ℕ → Type 0) (m o : List ℕ) (c : ℕ) → Whole E m o c → (a b : ℕ) → Marked m a → E a b → Marked m b
whole_edge E m o c w a b h e = let l = w.listed a h in w.closed l.0 b l.1 (subst (λ x. E x b) (sym l.2) e)

pub whole_none : (E : ℕ → ℕ → Type 0) (m o : List ℕ) → white m ≡ length m → ((v : ℕ) → get_or m v 0 ≡ 0) → Whole E m o 0
whole_none E m o all zeros = record {
  tally = omega arith;
  closed = λ k q h e. absurd (omega arith);
  listed = λ v h. absurd (omega (arith, zeros v));
  marked = λ k h. absurd (omega arith);
  runs = λ k h. absurd (omega arith);
}

pub whole_more : {E : ℕ → ℕ → Type 0} {p : ℕ} {m o : List ℕ} {c : ℕ} {m' o' : List ℕ} {c' : ℕ} → length m' ≡ length m → Whole E m o c → Grown E p m o c m' o' c' → Closed E m' o' c' → Whole E m' o' c'
whole_more {E} {p} {m} {o} {c} {m'} {o'} {c'} long w g closed = record {
  tally = omega (arith, w.tally, g.tally);
  closed = closed;
  listed = λ v h.
      ⊎_elim
      (λ was. let l = w.listed v was in (l.0, omega (arith, l.1, g.more), g.kept l.0 l.1 ∙ l.2))
      (λ was. let l = g.listed v (omega arith) h in (l.0, l.2, l.3))
      (cases_lt 0 (get_or m v 0));
  marked = λ k h.
      ⊎_elim
      (λ lt. rw (g.kept k lt) (g.stays (get_or o k 0) (w.marked k lt)))
      (λ ge. g.marked k ge h)
      (cases_lt k c);
  runs = λ k h.
      ⊎_elim
      (λ lt. run_kept E o o' k (λ j l. g.kept j (omega arith)) (w.runs k lt))
      (λ ge. g.runs k ge h)
      (cases_lt k c);
}

-- an arc leads to a package
pub edge_head : (starts targets : List ℕ) (n : ℕ) → Graph starts targets n → (a b : ℕ) → Edge starts targets a b → b < n
edge_head starts targets n rows a b arc =
    ⊎_elim
    (λ lt. omega (arith, arc.3, rows.heads a arc.0 lt arc.1 arc.2))
    (λ (ge : n ≤ a). absurd (omega (arith, arc.2, get_or_past starts (a + 1) 0 (omega (arith, rows.long, ge)))))
    (cases_lt a n)

run_map : (D E : ℕ → ℕ → Type 0) (o : List ℕ) (k : ℕ) → ((a b : ℕ) → D a b → E a b) → ((a b : ℕ) → E a b → D a b) → Run D o k → Run E o k
run_map D E o k to from run = record {
  low = run.low;
  low_le = run.low_le;
  reaches = λ j l h. reach_map to (run.reaches j l h);
  apart = λ i j l h g e. run.apart i j l h g (from (get_or o i 0) (get_or o j 0) e);
}

-- once every package has a mark, the order has them all
pub whole_all : {E : ℕ → ℕ → Type 0} {m o : List ℕ} {c : ℕ} → ((v : ℕ) → v < length m → Marked m v) → Whole E m o c → c ≡ length m
whole_all {E} {m} all w = omega (arith, w.tally, white_none m all)

-- a search along the turned arcs that is at rest and has marked every package
pub finished_from : (D E : ℕ → ℕ → Type 0) (n : ℕ) (m f : List ℕ) (c : ℕ) → ((a b : ℕ) → D a b → E b a) → ((a b : ℕ) → E b a → D a b) → length m ≡ n → length f ≡ n → ((v : ℕ) → v < n → Marked m v) → Whole D m f c → Finished E n f (length f)
finished_from D E n m f c to from long same all w =
    let e : length f ≡ c = omega (arith, whole_all (λ v h. all v (omega (arith, h, long))) w, long, same) in
    record {
      all = λ v h. let l = w.listed v (all v h) in (l.0, omega (arith, l.1, e), l.2);
      inside = λ k h. omega (arith, marked_inside m (get_or f k 0) (w.marked k (omega (arith, h, e))), long);
      runs = λ k h. run_map D (λ a b. E b a) f k to from (w.runs k (omega (arith, h, e)));
    }
