-- `note` has no step: it sets the number that the pen is the right to make, and adds to the book's log.
use Rattle.std.proofs.Common.{List, [], ◌∷◌, ◌++◌, length, refl}
use mir.Syntax.{named}
use mir.Val.{Val, vunit, vptr}
use base.Logic.{SProp, emp}
use base.Fml.{Fml, ftrue, fsep, flft}
use types.Kit.{‵, ◌⊛◌, given, later, ◌$◌, ◌∵◌, !, qed, by, move, keep, drop, split, fsplit, fsplit3, fjoin, fjoin3, learn, use2, await, rewrite, feq_i}
use types.Run.{unit_lit, of_opd, returns, enter}
use types.ByLocal.{alloc_all, pass_all, free_all, look_at, sets}
use contract.Monad.{fact_i}
use contract.Running.{tables}
use denote.Exit.{yes}
use denote.RattleType.{RattleType, owns}
use denote.Signature.{types_at, plain}
use denote.Builtin.{RefOf, u64}
use denote.Ref.{mut_vals, mut_Tells, shr_vals, shr_Tells}
use denote.Steps.{nothing, opens, closes}
use denote.Triple.Walked.{Stays, stay_dropped, stay_ref, walk_of, Goes-dropped, Goes-ref}
use Rattle.logbook.proofs.Walks.{proved}
use Rattle.logbook.specs.Pages.{Book, Nib}
use Rattle.logbook.specs.Kept.{rules, seen_owns, pen_owns}
use Rattle.logbook.specs.contracts.tokens.Seen as Seen
use Rattle.logbook.specs.contracts.tokens.Pen as Pen
use Rattle.logbook.specs.contracts.tokens.Offer as Offer
use Rattle.logbook.proofs.Fields.{ends}
use Rattle.tf_history.specs.declared.law.Chunk.{Chunk}
use Rattle.tf_history.specs.Rule.{counts}
use Rattle.tf_history.specs.contracts.law.Chunk as chunk
use Rattle.tf_history.specs.contracts.law.Law as law
use Rattle.tf_history.specs.contracts.law.Nothing as none
use Rattle.tf_history.specs.contracts.law.LawRuleChunkU64.TheImpl as kept
use Rattle.tf_history.specs.contracts.law.NothingGainChunkU64.TheImpl as gained
use Rattle.tf_history.proofs.Noting.{notes}
use Rattle.tf_history.proofs.Steps.{adds_counts}
use Rattle.tf_history.specs.contracts.adding.note.{ended, clauses}
use Rattle.tf_history.specs.contracts.adding.note.Key.{name as #self}
use Rattle.tf_history.proofs.adding.note.Statement.{statement}
use Rattle.tf_history.proofs.adding.note.Code as code

pub note_spec : {M : Type 1} → statement M
note_spec 𝓤 𝓛 𝓜 𝓡 wired =
    let H = 𝓛.H in let 𝓣 = tables 𝓤 H 𝓜 𝓡 𝓡.env in let fn = code.function in let c = clauses 𝓛 𝓜.mem 𝓡.returns in
    let g = kept.ghosts in let rule = rules g.holds g.shows g.keeps in let cv = chunk.the_row.coded in
    let Sn : RattleType = Seen.the_row chunk.the_row u64 law.the_row g in let Pn : RattleType = Pen.the_row in let Of : RattleType = Offer.the_row chunk.the_row u64 law.the_row none.the_row g gained.ghosts in
    let hs : Stays ended.signature.params ended.kept = (stay_ref (0 ∷ []) tt (plain (λ _. Sn)), (stay_ref (1 ∷ []) tt (plain (λ _. Pn)), (stay_dropped (RefOf (2 ∷ []) tt (plain (λ _. Of)) (λ _. tt)) yes, tt))) in
    proved 𝓛 ended hs c 𝓜 𝓡 (Goes-ref 𝓛 3 0 tt (plain (λ _. Sn)), (Goes-ref 𝓛 3 1 tt (plain (λ _. Pn)), (Goes-dropped 𝓛 3 (RefOf (2 ∷ []) tt (plain (λ _. Of)) (λ _. tt)) yes (λ κs x f. refl), tt))) #self fn (code.unfolded 𝓤 H 𝓜 𝓡 wired)
    (λ κs. (mut_vals, (mut_vals, (shr_vals, tt)))) (λ κs. (mut_Tells (named 0) κs.0 Sn, (mut_Tells (named 1) κs.1.0 Pn, (shr_Tells (named 2) κs.1.1.0 Of, tt)))) (λ κs qs bounds a gh are.
    let me = a.0.now in let pen = a.1.0.now in let e : Chunk = a.1.1.0.now.ask in let more : List Chunk = me.log ++ e ∷ [] in let nib' : Nib = counts (length more) in
    let y : (walk_of 𝓛 ended hs c).Ghost = ((κs, qs, bounds, a, (vptr a.0.ref_ptr.0 a.0.ref_ptr.1 ∷ [], (vptr a.1.0.ref_ptr.0 a.1.0.ref_ptr.1 ∷ [], (vptr a.1.1.0.ref_ptr.0 a.1.1.0.ref_ptr.1 ∷ [], tt)))), gh) in let Post : Val → SProp 𝓤 = (walk_of 𝓛 ended hs c).post y in
    let toks : Fml = fsep (flft κs.0 qs.0) (fsep (flft κs.1.0 qs.1.0) (fsep (flft κs.1.1.0 qs.1.1.0) ftrue)) in
    qed 𝓛 ((‵ toks ⊛ ‵ (owns (types_at ended.signature.params κs) a y.0.4)) ∷ given _ (‵ ftrue) ∷ []) ∵ move ! (1 ∷ []) $ learn ! (λ asked. drop ! $ split ! $
    fsplit ! $ move ! (1 ∷ []) $ fsplit ! $ move ! (1 ∷ []) $ fsplit ! $ move ! (4 ∷ []) $ fsplit ! $ fsplit3 ! $ move ! (3 ∷ []) $ fsplit ! $ fsplit3 ! $ keep ! (5 ∷ 6 ∷ 1 ∷ 2 ∷ 10 ∷ 9 ∷ 7 ∷ 8 ∷ []) $
    enter ! 𝓣.C 𝓣.Λ fn (vptr a.0.ref_ptr.0 a.0.ref_ptr.1 ∷ vptr a.1.0.ref_ptr.0 a.1.0.ref_ptr.1 ∷ vptr a.1.1.0.ref_ptr.0 a.1.1.0.ref_ptr.1 ∷ []) Post $ alloc_all ! (λ l. pass_all ! refl ((tt, tt), ((tt, tt), ((tt, tt), tt))) $
    move ! (0 ∷ 1 ∷ 4 ∷ []) $ opens ! tt Sn a.0.ref_ptr.0 a.0.ref_ptr.1 (λ vs0. move ! (1 ∷ []) $ fsplit ! $
    move ! (6 ∷ 7 ∷ 8 ∷ []) $ opens ! tt Pn a.1.0.ref_ptr.0 a.1.0.ref_ptr.1 (λ vs1. move ! (1 ∷ []) $ fsplit ! $
    move ! (7 ∷ 1 ∷ []) $ rewrite ! 1 (λ (z : Book × Nib). ‵ (pen_owns z.0 z.1)) (λ i. (asked.0 i, asked.1 i)) refl $
    use2 𝓛 (later (‵ (seen_owns cv.code rule me.book me.names more) ⊛ ‵ (pen_owns me.book nib'))) (notes 𝓛 cv rule me.book me.names 0 (length me.log) (length more) me.log e (adds_counts me.log e asked.2)) $ await ! tt $ split ! $
    move ! (2 ∷ 1 ∷ []) $ fjoin ! $ move ! (2 ∷ 0 ∷ 3 ∷ 4 ∷ 5 ∷ []) $ closes ! tt Pn (record { marker = record {}; book = me.book; nib = nib' }) vs1 a.1.0.ref_ptr.0 a.1.0.ref_ptr.1 $
    move ! (4 ∷ 3 ∷ []) $ fjoin ! $ move ! (4 ∷ 0 ∷ 5 ∷ 6 ∷ 7 ∷ []) $ closes ! tt Sn (record { marker = record {}; book = me.book; names = me.names; log = more }) vs0 a.0.ref_ptr.0 a.0.ref_ptr.1 $
    sets ! (of_opd ! (unit_lit !)) refl (tt, tt) $ feq_i ! (List Val) (vunit ∷ []) (vunit ∷ []) refl $
    move ! (7 ∷ 8 ∷ []) $ fjoin ! $ move ! (7 ∷ 0 ∷ []) $ fjoin ! $ move ! (4 ∷ 0 ∷ []) $ fjoin ! $ nothing ! $ nothing ! $ fjoin ! $
    feq_i ! (List Val) (vptr a.1.0.ref_ptr.0 a.1.0.ref_ptr.1 ∷ []) (vptr a.1.0.ref_ptr.0 a.1.0.ref_ptr.1 ∷ []) refl $ move ! (0 ∷ 6 ∷ 7 ∷ []) $ fjoin3 ! $ fjoin ! $
    feq_i ! (List Val) (vptr a.0.ref_ptr.0 a.0.ref_ptr.1 ∷ []) (vptr a.0.ref_ptr.0 a.0.ref_ptr.1 ∷ []) refl $ move ! (0 ∷ 4 ∷ 5 ∷ []) $ fjoin3 ! $ fjoin ! $
    returns ! (look_at ! 0 refl) $ free_all ! refl $ keep ! (1 ∷ 0 ∷ 2 ∷ []) $ by ! (ends 𝓛 ended hs c y vunit tt
    (record { marker = record {}; book = me.book; names = me.names; log = more }, (record { marker = record {}; book = me.book; nib = nib' }, (tt, tt))) (tt, (tt, (tt, tt))) (fact_i 𝓤 _ (emp 𝓤) (refl, refl, refl, refl))))))))
