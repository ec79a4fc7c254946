-- What is found of a job, over the rows of ranks.
use Rattle.std.proofs.Common.{◌≡◌, ◌≢◌, ℕ, ◌+◌, ◌*◌, ◌<◌, ◌≤◌, List, length, get_or, take, set, sym, ap, ◌∙◌, subst, arith}
use Rattle.std.specs.List.{between}
use Rattle.std.proofs.lemmas.List.{length-take-le}
use Rattle.graphs.specs.Searches.{Graph, Edge, Marked}
use Rattle.plans.specs.Steps.{Named, Falling, Listed, Flagged, Between, Merged, Nested, Deep, Built}
use Rattle.tables.specs.Tables.{put_row}
use Rattle.plans.proofs.Building.{named_below, nested_below, job_rowed, job_waved, off_row, built_none, built_more}
use Rattle.plan.specs.declared.condensed.Condensed.{Condensed}
use Rattle.plan.specs.Tables.{Leads, row_at, Aimed}
use Rattle.plan.proofs.Rows.{row_edge, edge_row, row_inside}

-- the flags of a rank say where its edges lead
pub flagged : (c : Condensed) (live flags row : List ℕ) (r : ℕ) → Aimed row live r flags → Graph c.starts.now c.targets.now (length live)
    → row ≡ row_at c r → Flagged (Leads c) live r flags
flagged c live flags row r aimed rows is =
    let listed : (t : ℕ) → Leads c r t → Listed (row_at c r) t = edge_row c.starts.now c.targets.now (length live) r rows in record {
      sound = λ t h. let w = aimed.sound t h in (row_edge c.starts.now c.targets.now (length live) r rows t (w.0, subst (λ x. w.0 < length x) is w.1, ap (λ x. get_or x w.0 0) (sym is) ∙ w.2), w.3, w.4);
      full = λ t a.
          let w = listed t a.0 in
          let at : get_or row w.0 0 ≡ t = ap (λ x. get_or x w.0 0) is ∙ w.2 in
          subst (λ x. Marked flags x) at (aimed.full w.0 (subst (λ x. w.0 < length x) (sym is) w.1) (subst (λ x. Marked live x) (sym at) a.1) (λ e. a.2 (sym at ∙ e)));
    }

pub job_nested : (c : Condensed) (live names waves flags sets : List ℕ) (n r : ℕ) → Built (Between (Leads c) live names) names waves sets n r
    → Named names n (length live) → r < length live → length flags ≡ length live → Nested names sets n (length (take r flags))
job_nested c live names waves flags sets n r built named r_in long =
    nested_below (Between (Leads c) live names) names waves sets n (length live) r (length (take r flags)) built named (omega arith) (omega (arith, length-take-le r flags))

pub job_built : (c : Condensed) (live names waves waves' flags sets sets' row : List ℕ) (n r d : ℕ) → Built (Between (Leads c) live names) names waves sets n r
    → Flagged (Leads c) live r flags → Merged (take r flags) names sets n 0 (length (take r flags)) row → Deep (take r flags) waves (length (take r flags)) d → d ≤ length (take r flags)
    → Falling (Leads c) (length live) → Named names n (length live) → r < length live → length flags ≡ length live → length sets ≡ n * n → length row ≡ n → r < length waves
    → sets' ≡ put_row n sets (get_or names r 0) row → waves' ≡ set waves r d → Built (Between (Leads c) live names) names waves' sets' n (r + 1)
job_built c live names waves waves' flags sets sets' row n r d built flagged merged deep low falling named r_in long square wide room put at =
    let D : ℕ → ℕ → Type 0 = Between (Leads c) live names in
    subst (λ w. Built D names w sets' n (r + 1)) (sym at)
    (built_more D names waves sets n r (length live) r_in named built sets' d room
    (job_rowed (Leads c) live names waves sets row flags n (length live) r falling named r_in long flagged built merged square wide sets' put)
    (off_row n (get_or names r 0) sets row sets' (named.inside r r_in) square wide put)
    (job_waved (Leads c) live names waves sets row flags n (length live) r falling named r_in long flagged d deep)
    (omega (arith, length-take-le r flags)))

-- no pair leads from a rank that is not in the plan
pub job_none : (c : Condensed) (live names waves sets : List ℕ) (n r : ℕ) → Built (Between (Leads c) live names) names waves sets n r
    → Named names n (length live) → Falling (Leads c) (length live) → r < length live → get_or live r 0 ≡ 0 → ((u t : ℕ) → Leads c u t → Marked live t → Marked live u)
    → Built (Between (Leads c) live names) names waves sets n (r + 1)
job_none c live names waves sets n r built named falling r_in off back =
    built_none (Between (Leads c) live names) names waves sets n r (length live) r_in named built
    (λ b d. let same : d.0 ≡ r = named.apart d.0 r (falling.tails d.0 d.1 d.2.0) r_in d.3 in omega (arith, off, ap (λ x. get_or live x 0) same, back d.0 d.1 d.2.0 d.2.1))

pub ruleset flagging = (flagged, row_inside)

pub ruleset taking = (named_below, job_nested, job_built)
