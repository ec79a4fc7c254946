use Rattle.std.proofs.Common.{◌+◌, ◌*◌, Ok, ◌∙◌, length, refl, sym, ap, arith}
use Rattle.std.proofs.lemmas.List.{length-take-le}
use Rattle.catalogue.specs.Meanings.{in_force}
use Rattle.graphs.proofs.Edges.{ends}
use Rattle.plans.proofs.Changed.{changed_known}
use Rattle.plans.proofs.Laws.{plan_laws}
use Rattle.plan.specs.Planning.{Placed}
use Rattle.plan.proofs.Plannings as plannings
use Rattle.plan.proofs.Plannings.{groups_told, words_enough}
use Rattle.plan.proofs.planning.plan_with.Goals as goal

pub slice_bounds-condensed-end : goal.slice_bounds-condensed-end
slice_bounds-condensed-end g c =
    sym (length-take-le (c.in_ok-groups.field-0 + 1) c.fill_rows.new.starts (plannings.long_enough g.C.Label.Label.ops (g.C.Catalogue.meaning c.args.catalogue.now) (g.met.C.Catalogue.sound c.args.catalogue.now) c.args.changed.now c.requires.known
    c.args.records.now c.sort.new.records (c.in_ok-groups.ensures.sorts refl) (c.sort.auto.records ∙ c.requires.records)
    c.fill_rows.new.starts c.fill_rows.new.cells (c.in_ok-fill_rows.ensures.fills refl) c.in_ok-groups.field-0
    (groups_told (g.C.Catalogue.meaning c.args.catalogue.now) c.in_ok-groups.field-0 (length c.args.records.now) (length c.args.words.now) c.requires.room c.in_ok-groups.ensures.answers)))

pub plan_groups-requires-clause-rows : goal.plan_groups-requires-clause-rows
plan_groups-requires-clause-rows g c =
    plannings.rows g.C.Label.Label.ops (g.C.Catalogue.meaning c.args.catalogue.now) (g.met.C.Catalogue.sound c.args.catalogue.now) c.args.changed.now c.requires.known
    c.args.records.now c.sort.new.records (c.in_ok-groups.ensures.sorts refl) (c.sort.auto.records ∙ c.requires.records)
    c.fill_rows.new.starts c.fill_rows.new.cells (c.in_ok-fill_rows.ensures.fills refl) c.in_ok-groups.field-0
    (groups_told (g.C.Catalogue.meaning c.args.catalogue.now) c.in_ok-groups.field-0 (length c.args.records.now) (length c.args.words.now) c.requires.room c.in_ok-groups.ensures.answers)

pub plan_groups-requires-clause-falling : goal.plan_groups-requires-clause-falling
plan_groups-requires-clause-falling g c =
    plannings.falling g.C.Label.Label.ops (g.C.Catalogue.meaning c.args.catalogue.now) (g.met.C.Catalogue.sound c.args.catalogue.now) c.args.changed.now c.requires.known
    c.args.records.now c.sort.new.records (c.in_ok-groups.ensures.sorts refl) (c.sort.auto.records ∙ c.requires.records)
    c.fill_rows.new.starts c.fill_rows.new.cells (c.in_ok-fill_rows.ensures.fills refl) c.in_ok-groups.field-0
    (groups_told (g.C.Catalogue.meaning c.args.catalogue.now) c.in_ok-groups.field-0 (length c.args.records.now) (length c.args.words.now) c.requires.room c.in_ok-groups.ensures.answers)

pub plan_groups-requires-clause-used : goal.plan_groups-requires-clause-used
plan_groups-requires-clause-used g c =
    plannings.used g.C.Label.Label.ops (g.C.Catalogue.meaning c.args.catalogue.now) (g.met.C.Catalogue.sound c.args.catalogue.now) c.args.changed.now c.requires.known
    c.args.records.now c.sort.new.records (c.in_ok-groups.ensures.sorts refl) (c.sort.auto.records ∙ c.requires.records)
    c.fill_rows.new.starts c.fill_rows.new.cells (c.in_ok-fill_rows.ensures.fills refl) c.in_ok-groups.field-0
    (groups_told (g.C.Catalogue.meaning c.args.catalogue.now) c.in_ok-groups.field-0 (length c.args.records.now) (length c.args.words.now) c.requires.room c.in_ok-groups.ensures.answers)

pub plan_groups-requires-clause-same : goal.plan_groups-requires-clause-same
plan_groups-requires-clause-same g c =
    plannings.same g.C.Label.Label.ops (g.C.Catalogue.meaning c.args.catalogue.now) (g.met.C.Catalogue.sound c.args.catalogue.now) c.args.changed.now c.requires.known
    c.args.records.now c.sort.new.records (c.in_ok-groups.ensures.sorts refl) (c.sort.auto.records ∙ c.requires.records)
    c.fill_rows.new.starts c.fill_rows.new.cells (c.in_ok-fill_rows.ensures.fills refl) c.in_ok-groups.field-0
    (groups_told (g.C.Catalogue.meaning c.args.catalogue.now) c.in_ok-groups.field-0 (length c.args.records.now) (length c.args.words.now) c.requires.room c.in_ok-groups.ensures.answers)

pub plan_groups-requires-clause-apart : goal.plan_groups-requires-clause-apart
plan_groups-requires-clause-apart g c =
    plannings.apart g.C.Label.Label.ops (g.C.Catalogue.meaning c.args.catalogue.now) (g.met.C.Catalogue.sound c.args.catalogue.now) c.args.changed.now c.requires.known
    c.args.records.now c.sort.new.records (c.in_ok-groups.ensures.sorts refl) (c.sort.auto.records ∙ c.requires.records)
    c.fill_rows.new.starts c.fill_rows.new.cells (c.in_ok-fill_rows.ensures.fills refl) c.in_ok-groups.field-0
    (groups_told (g.C.Catalogue.meaning c.args.catalogue.now) c.in_ok-groups.field-0 (length c.args.records.now) (length c.args.words.now) c.requires.room c.in_ok-groups.ensures.answers)

pub plan_groups-requires-clause-inside : goal.plan_groups-requires-clause-inside
plan_groups-requires-clause-inside g c =
    plannings.inside g.C.Label.Label.ops (g.C.Catalogue.meaning c.args.catalogue.now) (g.met.C.Catalogue.sound c.args.catalogue.now) c.args.changed.now c.requires.known
    c.args.records.now c.sort.new.records (c.in_ok-groups.ensures.sorts refl) (c.sort.auto.records ∙ c.requires.records)
    c.fill_rows.new.starts c.fill_rows.new.cells (c.in_ok-fill_rows.ensures.fills refl) c.in_ok-groups.field-0
    (groups_told (g.C.Catalogue.meaning c.args.catalogue.now) c.in_ok-groups.field-0 (length c.args.records.now) (length c.args.words.now) c.requires.room c.in_ok-groups.ensures.answers)

pub plan_groups-requires-clause-known : goal.plan_groups-requires-clause-known
plan_groups-requires-clause-known g c =
    plannings.listed g.C.Label.Label.ops (g.C.Catalogue.meaning c.args.catalogue.now) (g.met.C.Catalogue.sound c.args.catalogue.now) c.args.changed.now c.requires.known
    c.args.records.now c.sort.new.records (c.in_ok-groups.ensures.sorts refl) (c.sort.auto.records ∙ c.requires.records)
    c.fill_rows.new.starts c.fill_rows.new.cells (c.in_ok-fill_rows.ensures.fills refl) c.in_ok-groups.field-0
    (groups_told (g.C.Catalogue.meaning c.args.catalogue.now) c.in_ok-groups.field-0 (length c.args.records.now) (length c.args.words.now) c.requires.room c.in_ok-groups.ensures.answers)

pub plan_groups-requires-clause-room : goal.plan_groups-requires-clause-room
plan_groups-requires-clause-room g c =
    let few = plannings.few g.C.Label.Label.ops (g.C.Catalogue.meaning c.args.catalogue.now) (g.met.C.Catalogue.sound c.args.catalogue.now) c.args.changed.now c.requires.known
    c.args.records.now c.sort.new.records (c.in_ok-groups.ensures.sorts refl) (c.sort.auto.records ∙ c.requires.records)
    c.fill_rows.new.starts c.fill_rows.new.cells (c.in_ok-fill_rows.ensures.fills refl) c.in_ok-groups.field-0
    (groups_told (g.C.Catalogue.meaning c.args.catalogue.now) c.in_ok-groups.field-0 (length c.args.records.now) (length c.args.words.now) c.requires.room c.in_ok-groups.ensures.answers) in
    let words = words_enough (g.C.Catalogue.meaning c.args.catalogue.now) (length c.args.records.now) (length c.args.words.now) c.requires.room in
    omega (arith, few, words, (g.met.C.Catalogue.sound c.args.catalogue.now).some, c.requires.records, c.sort.auto.records, c.sort.auto.words)

pub tally-requires : goal.tally-requires
tally-requires g c = (
  c.args.changed.now,
  plannings.filled g.C.Label.Label.ops (g.C.Catalogue.meaning c.args.catalogue.now) (g.met.C.Catalogue.sound c.args.catalogue.now) c.args.changed.now c.requires.known
      c.args.records.now c.sort.new.records (c.in_ok-groups.ensures.sorts refl) (c.sort.auto.records ∙ c.requires.records)
      c.fill_rows.new.starts c.fill_rows.new.cells (c.in_ok-fill_rows.ensures.fills refl) c.in_ok-groups.field-0
      (groups_told (g.C.Catalogue.meaning c.args.catalogue.now) c.in_ok-groups.field-0 (length c.args.records.now) (length c.args.words.now) c.requires.room c.in_ok-groups.ensures.answers)
      c.plan_groups.new.records c.plan_groups.new.sets c.plan_groups.auto.records (c.plan_groups.auto.sets ∙ c.requires.table ∙ sym (ap (λ k. k * k) (c.sort.auto.records ∙ c.requires.records))) c.plan_groups.ensures,
)

pub returns-clause-answers : goal.returns-clause-answers
returns-clause-answers g c = ap (λ r. Ok r) (c.tally.ensures c.args.changed.now (plannings.filled g.C.Label.Label.ops (g.C.Catalogue.meaning c.args.catalogue.now) (g.met.C.Catalogue.sound c.args.catalogue.now) c.args.changed.now c.requires.known
    c.args.records.now c.sort.new.records (c.in_ok-groups.ensures.sorts refl) (c.sort.auto.records ∙ c.requires.records)
    c.fill_rows.new.starts c.fill_rows.new.cells (c.in_ok-fill_rows.ensures.fills refl) c.in_ok-groups.field-0
    (groups_told (g.C.Catalogue.meaning c.args.catalogue.now) c.in_ok-groups.field-0 (length c.args.records.now) (length c.args.words.now) c.requires.room c.in_ok-groups.ensures.answers)
    c.plan_groups.new.records c.plan_groups.new.sets c.plan_groups.auto.records (c.plan_groups.auto.sets ∙ c.requires.table ∙ sym (ap (λ k. k * k) (c.sort.auto.records ∙ c.requires.records))) c.plan_groups.ensures))

pub returns-clause-sets : goal.returns-clause-sets
returns-clause-sets g c = plannings.sets_are g.C.Label.Label.ops (g.C.Catalogue.meaning c.args.catalogue.now) (g.met.C.Catalogue.sound c.args.catalogue.now) c.args.changed.now c.requires.known
    c.args.records.now c.sort.new.records (c.in_ok-groups.ensures.sorts refl) (c.sort.auto.records ∙ c.requires.records)
    c.fill_rows.new.starts c.fill_rows.new.cells (c.in_ok-fill_rows.ensures.fills refl) c.in_ok-groups.field-0
    (groups_told (g.C.Catalogue.meaning c.args.catalogue.now) c.in_ok-groups.field-0 (length c.args.records.now) (length c.args.words.now) c.requires.room c.in_ok-groups.ensures.answers)
    c.plan_groups.new.records c.plan_groups.new.sets c.plan_groups.auto.records (c.plan_groups.auto.sets ∙ c.requires.table ∙ sym (ap (λ k. k * k) (c.sort.auto.records ∙ c.requires.records))) c.plan_groups.ensures

pub returns-clause-records : goal.returns-clause-records
unfolding Placed
returns-clause-records g c = (
  ends (g.C.Catalogue.meaning c.args.catalogue.now) g.C.Label.Label.ops (g.met.C.Catalogue.sound c.args.catalogue.now),
  c.requires.records,
  c.plan_groups.auto.records ∙ c.sort.auto.records ∙ c.requires.records,
  plannings.plan_is g.C.Label.Label.ops (g.C.Catalogue.meaning c.args.catalogue.now) (g.met.C.Catalogue.sound c.args.catalogue.now) c.args.changed.now c.requires.known
      c.args.records.now c.sort.new.records (c.in_ok-groups.ensures.sorts refl) (c.sort.auto.records ∙ c.requires.records)
      c.fill_rows.new.starts c.fill_rows.new.cells (c.in_ok-fill_rows.ensures.fills refl) c.in_ok-groups.field-0
      (groups_told (g.C.Catalogue.meaning c.args.catalogue.now) c.in_ok-groups.field-0 (length c.args.records.now) (length c.args.words.now) c.requires.room c.in_ok-groups.ensures.answers)
      c.plan_groups.new.records c.plan_groups.new.sets c.plan_groups.auto.records (c.plan_groups.auto.sets ∙ c.requires.table ∙ sym (ap (λ k. k * k) (c.sort.auto.records ∙ c.requires.records))) c.plan_groups.ensures c.requires.records,
)

pub returns-clause-lawful : goal.returns-clause-lawful
returns-clause-lawful g c =
    let m = g.C.Catalogue.meaning c.args.catalogue.now in
    plan_laws (in_force m) m.n (ends m g.C.Label.Label.ops (g.met.C.Catalogue.sound c.args.catalogue.now)) c.args.changed.now (changed_known m c.args.changed.now c.requires.known)
