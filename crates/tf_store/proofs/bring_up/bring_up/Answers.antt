use mathlib.Core.List.{IsPrefix}
use Rattle.std.proofs.Common.{◌≡◌, ◌∙◌, ◌+◌, ◌≤◌, Some, None, length, refl, sym, subst, ap, arith}
use Rattle.std.proofs.lemmas.Result.{IfOk-from_err, err_from_is_err_and}
use Rattle.tf_journal.specs.Lawful.{IsLawful}
use Rattle.tf_manifest.specs.View.{ShowsJournal, View as Tables}
use Rattle.tf_forest.specs.Forest.{View}
use Rattle.tf_store.specs.Public.{PublicView, all_public}
use Rattle.tf_store.proofs.Kept.{no_longer}
use Rattle.tf_store.proofs.Published.{IsPrepared, all_is_seen, all_shown, idle_publish, memory_not_full, refused_as, refused_publish, settled_publish, some_there, whatever_err}
use Rattle.tf_store.proofs.bring_up.bring_up.Goals as goal

pub returns-in_err-prepared-clause-publish : goal.returns-in_err-prepared-clause-publish
returns-in_err-prepared-clause-publish g c =
    let p = err_from_is_err_and c.from_residual.result c.from_residual.ensures.1 in
    rw (p.1, p.2) (refused_as c.args.forest.now c.prepare.new.self c.in_err-prepared.field-0.0
    (refused_publish c.args.forest.now c.prepare.new.self c.in_err-prepared.field-0.0 c.prepare.ensures.waits
    (λ none. let bad = c.in_err-prepared.ensures.idle none in cc) c.in_err-prepared.ensures.full c.in_err-prepared.ensures.refused))

pub returns-in_err-prepared-clause-begins : goal.returns-in_err-prepared-clause-begins
returns-in_err-prepared-clause-begins g c =
    subst (λ (v : View). IsPrefix c.args.public.now.front v.journal) (sym c.prepare.ensures.waits.is) c.requires.public.begins

pub returns-in_default-clause-publish : goal.returns-in_default-clause-publish
returns-in_default-clause-publish g c =
    let old : View = c.args.forest.now in
    let none : old.waiting ≡ 0 = rw c.in_default.is at c.in_ok-prepared.ensures.none in
    idle_publish old c.prepare.new.self None c.facts_of_rows.ensures.waits (record { none = none; same = c.prepare.ensures.still none }) (c.facts_of_rows.ensures.alone none) c.in_ok-prepared.ensures.fits

pub returns-in_default-clause-all : goal.returns-in_default-clause-all
returns-in_default-clause-all g c =
    let old : View = c.args.forest.now in
    let public : PublicView = c.args.public.now in
    let none : old.waiting ≡ 0 = rw c.in_default.is at c.in_ok-prepared.ensures.none in
    let within : public.shown ≤ length old.journal = omega (arith, c.requires.public.shown, no_longer public.front old.journal c.requires.public.begins) in
    let seen : public.shown ≡ length old.journal =
    all_shown old public.shown c.manifest_shows_one_journal.ensures.one within c.requires.lawful.sound c.requires.public.sound.sound c.requires.public.published (c.facts_of_rows.ensures.alone none) in
    all_is_seen old public c.requires.public seen ∙ ap (λ (v : View). all_public v.journal public.publications) (sym (c.prepare.ensures.still none))

pub returns-in_default-clause-begins : goal.returns-in_default-clause-begins
returns-in_default-clause-begins g c =
    subst (λ (v : View). IsPrefix c.args.public.now.front v.journal) (sym c.prepare.ensures.waits.is) c.requires.public.begins

pub returns-in_default-clause-idle : goal.returns-in_default-clause-idle
returns-in_default-clause-idle g c =
    let none : c.args.forest.now.waiting ≡ 0 = rw c.in_default.is at c.in_ok-prepared.ensures.none in
    record { none = none; same = c.prepare.ensures.still none }

pub returns-in_default-clause-uncounted : goal.returns-in_default-clause-uncounted
returns-in_default-clause-uncounted g c = c.prepare.ensures.parts

pub tell-requires-clause-lawful : goal.tell-requires-clause-lawful
tell-requires-clause-lawful g c = subst (λ (v : View). IsLawful v.journal) (sym c.prepare.ensures.waits.is) c.requires.lawful

pub tell-requires-clause-begins : goal.tell-requires-clause-begins
tell-requires-clause-begins g c =
    subst (λ (v : View). IsPrefix c.args.public.now.front v.journal) (sym c.prepare.ensures.waits.is) c.requires.public.begins

pub tell-requires-clause-shows : goal.tell-requires-clause-shows
tell-requires-clause-shows g c =
    subst (λ (v : Tables). ShowsJournal v c.prepare.new.self.journal) (sym c.manifest.ensures) (rw c.in-Some.is at c.in_ok-prepared.ensures.shows)

pub settle-requires-clause-kept : goal.settle-requires-clause-kept
settle-requires-clause-kept g c = subst (λ (v : View). v.kept ≡ length v.journal) (sym c.prepare.ensures.waits.is) c.requires.kept

pub settle-requires-clause-shows : goal.settle-requires-clause-shows
settle-requires-clause-shows g c = rw c.in-Some.is at c.in_ok-prepared.ensures.shows

pub settle-requires-clause-ready : goal.settle-requires-clause-ready
settle-requires-clause-ready g c = rw c.in-Some.is at c.in_ok-prepared.ensures.ready

pub returns-in-Ok-clause-publish : goal.returns-in-Ok-clause-publish
returns-in-Ok-clause-publish g c =
    let old : View = c.args.forest.now in
    let mid : View = c.prepare.new.self in
    let prepared : IsPrepared old mid c.in-Some.prepared = record {
      lost = c.prepare.ensures.waits;
      some = λ none. some_there _ _ _ c.in_ok-prepared.was c.in-Some.is (c.prepare.ensures.idle none);
      shows = rw c.in-Some.is at c.in_ok-prepared.ensures.shows;
      publishes = rw c.in-Some.is at c.in_ok-prepared.ensures.publishes;
      pushed = rw c.in-Some.is at c.in_ok-prepared.ensures.counted;
      sealed = rw c.in-Some.is at c.in_ok-prepared.ensures.sealed;
      ready = rw c.in-Some.is at c.in_ok-prepared.ensures.ready;
      fits = c.in_ok-prepared.ensures.fits;
    } in
    settled_publish old mid c.settle.new.self c.in-Some.prepared (Some c.in-Ok.version) prepared c.settle.ensures

pub returns-in-Ok-clause-version : goal.returns-in-Ok-clause-version
returns-in-Ok-clause-version g c = c.in-Ok.ensures.version ∙ ap (λ (v : View). v.journal) c.prepare.ensures.waits.is

pub returns-in-Ok-clause-all : goal.returns-in-Ok-clause-all
returns-in-Ok-clause-all g c =
    let counted = ap (λ (p : PublicView). p.publications) c.in-Ok.ensures.all in
    c.in-Ok.ensures.all ∙ ap (λ (v : View). all_public v.journal (c.args.public.now.publications + 1)) (sym c.settle.ensures) ∙ ap (all_public c.settle.new.self.journal) (sym counted)

pub returns-in-Ok-clause-begins : goal.returns-in-Ok-clause-begins
returns-in-Ok-clause-begins g c = subst (λ (v : View). IsPrefix c.tell.new.public.front v.journal) (sym c.settle.ensures) c.in-Ok.ensures.begins

pub returns-in-Err-clause-publish : goal.returns-in-Err-clause-publish
returns-in-Err-clause-publish g c =
    let old : View = c.args.forest.now in
    let mid : View = c.prepare.new.self in
    refused_publish old mid c.in-Err.refusal c.prepare.ensures.waits (λ none. some_there _ _ _ c.in_ok-prepared.was c.in-Some.is (c.prepare.ensures.idle none))
    (λ bad. absurd (memory_not_full c.in-Err.refusal c.in-Err.ensures.refusal bad))
    (λ other. (c.in-Err.ensures.refusal, c.in_ok-prepared.ensures.fits))

pub returns-in-Err-clause-begins : goal.returns-in-Err-clause-begins
returns-in-Err-clause-begins g c = c.in-Err.ensures.begins

pub returns-in-Err-clause-parts : goal.returns-in-Err-clause-parts
returns-in-Err-clause-parts g c = c.prepare.ensures.parts

pub returns-in_err-prepared-clause-version : goal.returns-in_err-prepared-clause-version
returns-in_err-prepared-clause-version g c = IfOk-from_err _ _ c.from_residual.ensures.0

pub returns-in_err-prepared-clause-all : goal.returns-in_err-prepared-clause-all
returns-in_err-prepared-clause-all g c = IfOk-from_err _ _ c.from_residual.ensures.0

pub returns-in_err-prepared-clause-idle : goal.returns-in_err-prepared-clause-idle
returns-in_err-prepared-clause-idle g c = IfOk-from_err _ _ c.from_residual.ensures.0

pub returns-in_err-prepared-clause-uncounted : goal.returns-in_err-prepared-clause-uncounted
returns-in_err-prepared-clause-uncounted g c = IfOk-from_err _ _ c.from_residual.ensures.0

pub returns-in_err-prepared-clause-same : goal.returns-in_err-prepared-clause-same
returns-in_err-prepared-clause-same g c = IfOk-from_err _ _ c.from_residual.ensures.0

pub returns-in_err-prepared-clause-refused : goal.returns-in_err-prepared-clause-refused
returns-in_err-prepared-clause-refused g c = whatever_err c.from_residual.result (refl, refl)

pub returns-in_err-prepared-clause-parts : goal.returns-in_err-prepared-clause-parts
returns-in_err-prepared-clause-parts g c = whatever_err c.from_residual.result c.prepare.ensures.parts

pub returns-in_default-clause-same : goal.returns-in_default-clause-same
returns-in_default-clause-same g c = refl

pub returns-in-Ok-clause-further : goal.returns-in-Ok-clause-further
returns-in-Ok-clause-further g c = c.in-Ok.ensures.further

pub returns-in-Err-clause-further : goal.returns-in-Err-clause-further
returns-in-Err-clause-further g c = c.in-Err.ensures.further

pub returns-in-Err-clause-refused : goal.returns-in-Err-clause-refused
returns-in-Err-clause-refused g c = c.in-Err.ensures.refused
