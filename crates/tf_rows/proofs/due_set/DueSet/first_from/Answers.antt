use Rattle.std.proofs.Common.{◌≡◌, Option, Some, None, Bool, false, sym, ◌∙◌, subst}
use Rattle.std.specs.Option.{is_some}
use Rattle.std.proofs.lemmas.Bool.{false≢true}
use Rattle.tf_table.specs.Content.{entry_at}
use Rattle.tf_table.specs.First.{IsFirstAbove}
use Rattle.tf_manifest.specs.declared.row.Row.TheVariants as row
use Rattle.tf_rows.specs.DueSet.{Keys}
use Rattle.tf_rows.specs.Parts.{value_of_part}
use Rattle.tf_rows.proofs.KeyWalks.{comes_further, comes_to_end, keys_above-fewer}
use Rattle.tf_rows.proofs.due_set.DueSet.first_from.Goals as goal

-- what a look-up says
nothing : {X : Type 0} (o : Option X) (b : Bool) → b ≡ is_some o → b ≡ false → o ≡ None
nothing None b is none = cc
nothing (Some x) b is none = absurd (false≢true (sym none ∙ is))

pub loop-self-preserved : goal.loop-self-preserved
loop-self-preserved g c =
    let place = c.loop-self.place in
    let next = c.in_ok-place.place in
    let value = value_of_part (g.S.RowSet.parts c.args.rows.now row.Expiry) in
    comes_further c.args.self.now value c.requires.held c.args.from.now place c.loop-self.invariant next (nothing (value place) c.is_open.result c.is_open.ensures c.loop-self-test.true)
    (subst (λ (keys : Keys). IsFirstAbove place (λ key. entry_at key keys) (Some next)) c.self.view_is c.in_ok-place.ensures)

pub loop-self-smaller : goal.loop-self-smaller
loop-self-smaller g c =
    let place = c.loop-self.place in
    let next = c.in_ok-place.place in
    keys_above-fewer c.args.self.now place next (subst (λ (keys : Keys). IsFirstAbove place (λ key. entry_at key keys) (Some next)) c.self.view_is c.in_ok-place.ensures)

pub returns-in_err-place : goal.returns-in_err-place
returns-in_err-place g c =
    let place = c.loop-self.place in
    let value = value_of_part (g.S.RowSet.parts c.args.rows.now row.Expiry) in
    comes_to_end c.args.self.now value c.requires.held c.args.from.now place c.loop-self.invariant c.from_residual.result (nothing (value place) c.is_open.result c.is_open.ensures c.loop-self-test.true)
    (subst (λ (keys : Keys). IsFirstAbove place (λ key. entry_at key keys) None) c.self.view_is c.in_err-place.ensures) c.from_residual.ensures
