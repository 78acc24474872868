use mathlib.Core.List.{IsPrefix}
use Rattle.std.proofs.Common.{◌≡◌, ◌∙◌, ◌+◌, ap, inl, List, [], IfOk, OnOk, append-nil, subst, sym}
use Rattle.tf_journal.specs.declared.entry.Entry.{Entry}
use Rattle.tf_manifest.specs.View.{ShowsJournal}
use Rattle.tf_store.specs.Public.{PublicView, all_public}
use Rattle.tf_history.specs.Written.{Written}
use Rattle.tf_store.proofs.Kept.{no_longer}
use Rattle.tf_store.proofs.Published.{whatever_err}
use Rattle.tf_store.proofs.public.tell.Goals as goal

pub extend-requires-clause-begins : goal.extend-requires-clause-begins
extend-requires-clause-begins g c = subst (λ (p : PublicView). IsPrefix p.front c.args.forest.now.journal) (sym c.public.view_is) c.requires.begins

pub extend-requires-clause-lawful : goal.extend-requires-clause-lawful
extend-requires-clause-lawful g c = c.requires.lawful

pub announce-requires : goal.announce-requires
announce-requires g c = subst (ShowsJournal c.args.tables.now) (sym (ap (λ (w : Written). w.journal) c.if-not-extend.ensures.extended)) c.requires.shows

pub returns-clause-version : goal.returns-clause-version
returns-clause-version g c = subst (λ (w : Written). IfOk c.announce.result (λ version. version ≡ w.journal)) c.if-not-extend.ensures.extended c.announce.ensures.version

pub returns-clause-all : goal.returns-clause-all
returns-clause-all g c =
    let journal : List Entry = c.args.forest.now.journal in
    subst (λ (p : PublicView). OnOk c.announce.result (c.announce.new.public ≡ all_public journal (p.publications + 1))) c.public.view_is
    (subst (λ (w : Written). OnOk c.announce.result (c.announce.new.public ≡ all_public w.journal w.publications)) c.if-not-extend.ensures.extended c.announce.ensures.all)

pub returns-clause-history : goal.returns-clause-history
returns-clause-history g c = whatever_err c.announce.result (inl (c.announce.ensures.front ∙ ap (λ (w : Written). w.journal) c.if-not-extend.ensures.extended))

pub returns-clause-begins : goal.returns-clause-begins
returns-clause-begins g c =
    let journal : List Entry = c.args.forest.now.journal in
    subst (λ (l : List Entry). IsPrefix l journal) (sym (c.announce.ensures.front ∙ ap (λ (w : Written). w.journal) c.if-not-extend.ensures.extended)) ([], append-nil journal)

pub returns-clause-further : goal.returns-clause-further
returns-clause-further g c = rw (c.announce.ensures.front, c.if-not-extend.ensures.extended) (no_longer c.args.public.now.front c.args.forest.now.journal c.requires.begins)

pub returns-clause-refusal : goal.returns-clause-refusal
returns-clause-refusal g c = c.announce.ensures.refusal
