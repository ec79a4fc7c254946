-- What is printed of the buffers of a plan is the plan by the definitions.
use Rattle.std.proofs.Common.{◌≡◌, ℕ, zero, suc, ◌+◌, ◌*◌, ◌<◌, ◌≤◌, Bool, true, false, cond, not, ◌&&◌, eqb, ltb, List, [], ◌∷◌, ◌++◌, length, take, drop, is_ok, Some, None, Ok, Err, Result, codes, option_map, refl, sym, ap, ◌∙◌, ap₂, true≢false, arith, length-append, length-take, le-leb}
use Rattle.std.specs.List.{range_with_len, flat_map, between}
use Rattle.std.specs.Result.{result_ok}
use Rattle.std.proofs.lemmas.List.{length-map}
use Rattle.std.proofs.lemmas.List.FromFn.{length-map-range_with_len}
use Rattle.std.proofs.lemmas.List.Edits.{length-between, get_or-between}
use Rattle.std.proofs.lemmas.Bool.{lt-ltb}
use Rattle.labels.specs.Algebra.{Ops}
use Rattle.labels.specs.declared.kinds.Minutes.{Minutes}
use Rattle.paths.specs.declared.arc.Arc.{Arc}
use Rattle.paths.specs.Chains.{Mem}
use Rattle.paths.specs.Groups.{group}
use Rattle.paths.proofs.Written.{length_table}
use Rattle.sheets.specs.Sheets.{count_test}
use Rattle.catalogue.specs.Meanings.{Meaning, Sound, in_force}
use Rattle.catalogue.specs.Refusals.{answer, on_ok, then}
use Rattle.catalogue.specs.declared.refusal.Refusal.{Refusal}
use Rattle.tables.specs.Rows.{row_answer}
use Rattle.tables.proofs.Areas.{row_within}
use Rattle.tables.proofs.Reading.{row_is}
use Rattle.graphs.specs.declared.record.PackageRecord.{PackageRecord}
use Rattle.graphs.specs.Records.{no_wave, of}
use Rattle.graphs.proofs.Edges.{ends}
use Rattle.plans.specs.declared.counts.PlanCounts.{PlanCounts}
use Rattle.plans.specs.Plans.{planned, job, wait, in_set, wave, wave_of, byte, bytes, counts, Planned}
use Rattle.plans.specs.Answers.{plan_lacks, changed_answer, plan_answer}
use Rattle.plans.proofs.Changed.{changed_known}
use Rattle.plans.proofs.Heights.{wave_low}
use Rattle.plans.proofs.LeastWaits.{is_two, cell_is, read}
use Rattle.console.specs.Grammar.{field}
use Rattle.console.specs.Replies.{total_text}
use Rattle.runs.specs.declared.step.Outcome.TheVariants as outcomes
use Rattle.console.specs.declared.reply.Reply.{Reply}
use Rattle.console.specs.declared.reply.Reply.TheVariants as replies
use Rattle.console.specs.Sessions.{text_of}
use Rattle.console.specs.Jobs.{fields_of, awaited, job_text, names, job_of, job_line, plan_text, answer_text, line_of, text_of_plan}

-- the same pieces
same_from : (f g : ℕ → List ℕ) (from k : ℕ) → ((b : ℕ) → from ≤ b → b < from + k → f b ≡ g b) → flat_map f (range_with_len from k) ≡ flat_map g (range_with_len from k)
same_from f g from zero h = refl
same_from f g from (suc k) h =
    ap₂ (λ x y. x ++ y) (h from (omega arith) (omega arith)) (same_from f g (from + 1) k (λ b l u. h b (omega arith) (omega arith)))

same_pieces : (f g : ℕ → List ℕ) (k : ℕ) → ((b : ℕ) → b < k → f b ≡ g b) → flat_map f (range_with_len 0 k) ≡ flat_map g (range_with_len 0 k)
same_pieces f g k h = same_from f g 0 k (λ b l u. h b (omega arith))

-- a record that names its package in a wave is that of a job
names_same : (g a u v w : ℕ) (p : Bool) → (g ≡ a → u ≡ v) → v ≤ 1024 → (eqb g a && (eqb (cond p u 4294967295) w && not (eqb w 4294967295))) ≡ ((p && eqb g a) && eqb v w)
names_same g a u v w true same low = grind arith
names_same g a u v w false same low = grind arith

-- the line of a name
line_told : (t : Bool) (a w : ℕ) (row : List ℕ) (r : Result (List ℕ) ℕ) → r ≡ Ok row
    → job_line (cond t (option_map (λ row. (a, w, row)) (result_ok r)) None) ≡ cond t (job_text a w row ++ (10 ∷ [])) []
line_told t a w row r is = ap (λ r. job_line (cond t (option_map (λ row. (a, w, row)) (result_ok r)) None)) is ∙ go t
  where
    go : (t : Bool) → job_line (cond t (Some (a, w, row)) None) ≡ cond t (job_text a w row ++ (10 ∷ [])) []
    go true = refl
    go false = refl

module _ {K : Type 0} (arcs : List (Arc K)) (n : ℕ) (ends : (a : Arc K) → Mem a arcs → (a.from < n) × (a.to < n))
    (changed : List ℕ) (known : (c : ℕ) → Mem c changed → c < n) (counted : count_test n ≡ true) (most : n ≤ 1024)
    (sets tail : List ℕ) (left : sets ≡ bytes arcs n changed ++ tail)
    (old new : List PackageRecord) (many : n ≤ length new) (made : Planned arcs n changed old new) where
  named : (w a : ℕ) → a < n → (ltb a (length new) && names (of new a) w a) ≡ (job arcs n changed a && eqb (wave arcs n changed a) w)
  named w a h =
      let g = read arcs n ends changed known old new many made (λ r. r.group) (group arcs n) made.groups a h in
      let v = read arcs n ends changed known old new many made (λ r. r.wave) (wave_of arcs n changed) made.waves a h in
      ap₂ ◌&&◌ (lt-ltb a (length new) (omega arith)) (ap₂ (λ x y. eqb x a && (eqb y w && not (eqb w no_wave))) g v)
      ∙ names_same (group arcs n a) a (wave arcs n changed (group arcs n a)) (wave arcs n changed a) w (planned arcs n changed a)
      (ap (wave arcs n changed)) (omega (arith, most, wave_low arcs n ends changed known a))

  long : n * n ≤ length sets
  long = omega (arith, ap length left, length-append (bytes arcs n changed) tail, length_table n (byte arcs n changed))

  module _ (a : ℕ) (h : a < n) where
    abbrev row : List ℕ
    row = between (a * n) (a * n + n) sets

    inside : a * n + n ≤ n * n
    inside = row_within n a h

    row_length : length row ≡ n
    row_length = length-between sets (a * n) (a * n + n) (omega (arith, inside, long)) ∙ omega arith

    waits_same : (b : ℕ) → b < n → awaited row b ≡ wait arcs n changed a b
    waits_same b k =
        ap (λ x. eqb x 2) (get_or-between sets (a * n) (a * n + n) b 0 (omega arith) ∙ cell_is arcs n ends changed known sets tail left a b h k)
        ∙ is_two (wait arcs n changed a b) (in_set arcs n changed a b)

    fields_same : fields_of (awaited row) (length row) ≡ fields_of (wait arcs n changed a) n
    fields_same =
        ap (fields_of (awaited row)) row_length ∙ same_pieces _ _ n (λ b k. ap (λ t. cond t (field b) []) (waits_same b k))

    line_same : (w : ℕ) → job_line (job_of new sets n w a) ≡ line_of arcs n changed w a
    line_same w =
        ap (λ t. job_line (cond t (option_map (λ row. (a, w, row)) (result_ok (row_answer sets n a))) None)) (named w a h)
        ∙ line_told (job arcs n changed a && eqb (wave arcs n changed a) w) a w row (row_answer sets n a) (row_is sets n a counted long h)
        ∙ ap (λ x. cond (job arcs n changed a && eqb (wave arcs n changed a) w) ((codes "job" ++ (field a ++ (codes " wave" ++ (field w ++ (codes " waits" ++ x))))) ++ (10 ∷ [])) []) fields_same

  pub plan_shown : plan_text new sets n (counts arcs n changed) ≡ text_of_plan arcs n changed
  plan_shown =
      ap (λ x. x ++ total_text (counts arcs n changed))
      (same_pieces _ _ (counts arcs n changed).waves (λ w _. same_pieces _ _ n (λ a h. line_same a h w)))

-- what was told of a plan that is taken
parts_told : (lacking : Bool) (r : Result (Unit {0}) ℕ) (x told : PlanCounts) → cond lacking (Err 13) (then r (λ _. Ok x)) ≡ Ok told → (r ≡ Ok tt) × (x ≡ told)
parts_told true r x told e = absurd (true≢false (sym (ap is_ok e)))
parts_told false (Err k) x told e = absurd (true≢false (sym (ap is_ok e)))
parts_told false (Ok tt) x told e = (refl, cc e)

pub outcome_told : (r : Result PlanCounts ℕ) (told : PlanCounts) → on_ok (λ c. outcomes.Planned c) r ≡ Ok (outcomes.Planned told) → r ≡ Ok told
outcome_told (Ok c) told e = cc e
outcome_told (Err k) told e = absurd (true≢false (sym (ap is_ok e)))

module _ {K : Type 0} (o : Ops K) (m : Meaning K) (sound : Sound o m) (changed : List ℕ) where
  counted : count_test m.n ≡ true
  counted = ap₂ ◌&&◌ (le-leb 1 m.n sound.some) (le-leb m.n 1024 sound.most)

  many : (old new : List PackageRecord) → Planned (in_force m) m.n changed old new → m.n ≤ length new
  many old new made =
      omega (
        arith,
        sym (length-map (take m.n new) (λ r. r.group)) ∙ ap length made.groups ∙ length-map-range_with_len (group (in_force m) m.n) 0 m.n,
        length-take m.n new,
      )

  pub taken_shown : (old new : List PackageRecord) (before after : List ℕ) (cells some few : ℕ) (told : PlanCounts)
      → plan_answer m changed cells some few ≡ Ok told
      → after ≡ bytes (in_force m) m.n changed ++ drop (m.n * m.n) before
      → Planned (in_force m) m.n changed old new
      → plan_text new after m.n told ≡ text_of_plan (in_force m) m.n changed
  taken_shown old new before after cells some few told taken left made =
      let parts = parts_told (plan_lacks m cells some few) (changed_answer m changed) (counts (in_force m) m.n changed) told taken in
      ap (plan_text new after m.n) (sym parts.1)
      ∙ plan_shown (in_force m) m.n (ends m o sound) changed (changed_known m changed parts.0) counted sound.most
      after (drop (m.n * m.n) before) left old new (many old new made) made

-- an answer is told as its text
pub text_told : (m : Meaning Minutes) (records : List PackageRecord) (sets changed : List ℕ) (r : Result Reply Refusal) (a : Result Reply ℕ) → answer r ≡ a
    → ((told : PlanCounts) → a ≡ Ok (replies.Planned told) → plan_text records sets m.n told ≡ text_of_plan (in_force m) m.n changed)
    → answer_text r records sets m.n ≡ text_of m changed a
text_told m records sets changed r a is shown = go r (λ told e. shown told (sym is ∙ e)) ∙ ap (text_of m changed) is
  where
    go : (r : Result Reply Refusal)
        → ((told : PlanCounts) → answer r ≡ Ok (replies.Planned told) → plan_text records sets m.n told ≡ text_of_plan (in_force m) m.n changed)
        → answer_text r records sets m.n ≡ text_of m changed (answer r)
    go (Ok replies.Done) shown = refl
    go (Ok (replies.Label l)) shown = refl
    go (Ok (replies.Planned told)) shown = shown told refl
    go (Err e) shown = refl
