-- What is shared as bytes is shared as an array of them, at the same place. A walk of the code by hand: it goes through a raw pointer.
use Prim.Native.Nat.{ℕ, ◌*◌, ◌<◌, ◌^◌}
use mathlib.Core.List.{List, [], ◌∷◌}
use mathlib.Core.Path.{◌≡◌, refl}
use lib.ListN.{length}
use seplogic.Ra.Ura.{Ura}
use mir.Syntax.{Args, Body, Fn, named, a_number, seq, assign, place, rv_opd, copy, return}
use mir.MapTy.{inst_fn}
use mir.Val.{Val, vptr}
use base.Logic.{SProp, ent}
use base.Fml.{Lft, Share, ftrue, flft}
use prog.Memory.{Memory}
use prog.Routine.{Routine}
use prog.Wp.{Env, Calls, Loops, WpFn, Tables}
use types.Logic.{Logic}
use contract.BorrowLft.{◌⊑◌}
use contract.Lifetimes.{AllOutlive}
use contract.Monad.{Fun}
use contract.Running.{tables, tables_of}
use sound.WpLaws.{WpFn-mono}
use types.Kit.{‵, ◌⊛◌, raw, given, at_ret, ◌$◌, ◌∵◌, !, qed, by, move, keep, drop, split3, learn, fsplit, fjoin, feq_i, suffices, frame, done}
use types.Part.{whole, sub}
use types.Run.{stop, fld, hop, from, addr, of_opd, first, blocks, exec, returns, enter}
use types.ByLocal.{alloc_all, pass_all, free_all, look_at, look_in_at, get, through, sets, sets_last, env}
use denote.Builtin.{u8}
use denote.Exit.{yes}
use denote.Opens.{unhide, hide}
use denote.Param.{number, layouts}
use denote.RattleType.{owns}
use denote.Ref.{Bor}
use denote.Signature.{plain, shr_slice_of}
use denote.Slice.{ShrSlice, Room, slice_val, shr_slice_vals, shr_slice_Tells}
use denote.Steps.{nothing}
use denote.Triple.Clauses.{Clauses, Ended, closing}
use denote.Triple.Entry.{on_entry}
use denote.Triple.Spec.{Meets, triple_of}
use denote.Triple.Table.{entered}
use denote.Triple.Walked.{says, Stays, stay_dropped, walk_of, ends_at, walked, Goes-dropped, walk_Meets}
use Rattle.nack_store.specs.contracts.in_place as in_place
use Rattle.nack_store.specs.contracts.in_place.Key.{name as #in_place}
use Rattle.nack_store.proofs.in_place.Statement as stated
use Rattle.nack_store.proofs.in_place.Code as code

-- the result's local takes the array, and the function returns
abbrev rest : Body
rest = seq (assign (place 0 []) (rv_opd (copy (place 2 [])))) return

module _ (n : ℕ) where
  abbrev args : Args
  args = layouts (a_number ∷ []) (number n, tt)

  abbrev fn' : Fn
  fn' = inst_fn args code.function

  abbrev ended : Ended
  ended = in_place.ended (number n)

  abbrev stayed : Stays ended.signature.params ended.kept
  stayed = (stay_dropped (shr_slice_of (0 ∷ []) tt (plain (λ _. u8))) yes, tt)

module _ (n : ℕ) {M : Type 1} {𝓤 : Ura M} (𝓛 : Logic 𝓤) (at_mem : Memory → SProp 𝓤) (run : Routine → Fun 𝓤) where
  open 𝓛 use {H}

  abbrev clauses : Clauses 𝓤 (ended n)
  clauses = in_place.clauses (number n) 𝓛 at_mem run

  -- the bytes xs are lent for κ, and lie at the offset o of the block b
  module _ (C : Calls 𝓤 H) (Λ : Loops 𝓤 H) (κ κN : Lft) (q qN : Share) (bd : AllOutlive 2 (ended n).signature.outlives (κ, (κN, tt))) (b o : ℕ) (xs : List ℕ) where
    abbrev lent : Bor (List ℕ)
    lent = record { ref_ptr = (b, o); now = xs }

    abbrev bound : (walk_of 𝓛 (ended n) (stayed n) clauses).Ghost
    bound = (((κ, (κN, tt)), (q, (qN, tt)), bd, (lent, tt), (shr_slice_vals lent, tt)), tt)

    abbrev Post : Val → SProp 𝓤
    Post = (walk_of 𝓛 (ended n) (stayed n) clauses).post bound

    walk : Room u8 (length xs) → length xs ≡ n
        → ent 𝓤 (on_entry 𝓛 (ended n).signature (κ, (κN, tt)) (q, (qN, tt)) (lent, tt) (shr_slice_vals lent, tt)) (WpFn 𝓤 H C Λ (fn' n) (slice_val (b, o) (length xs) ∷ []) Post)
    walk room size =
        qed 𝓛 ((‵ (flft κ q) ⊛ ‵ (flft κN qN) ⊛ ‵ ftrue) ∷ ‵ (owns (ShrSlice (named 0) κ u8 ∷ []) (lent, tt) (shr_slice_vals lent, tt)) ∷ []) ∵
        enter ! C Λ (fn' n) (slice_val (b, o) (length xs) ∷ []) _ $
        alloc_all ! (λ l. pass_all ! refl ((tt, (tt, (record { fits = room.0 }, tt))), tt) $
        let En : Env 𝓤 H = env (fn' n).locals l in
        first ! $ blocks ! $
        -- bytes.as_ptr() as *const [u8; N]
        sets ! (addr ! (from ! (fld ! refl (hop ! (look_in_at ! 1 (sub ! 0 refl (whole !))) (stop !))))) refl (tt, tt) $
        -- &*..
        sets_last ! (addr ! (through ! refl (stop !))) refl (tt, tt) $
        exec ! C Λ En rest (at_ret En Post) $
        sets ! (of_opd ! (get ! refl)) refl (tt, tt) $
        -- what the slice shares is what an array of n bytes shares
        move ! (1 ∷ []) $ fsplit ! $ fsplit ! $ drop ! $ unhide ! $ feq_i ! ℕ (length xs) n size $ fjoin ! $ hide ! $
        returns ! (look_at ! 0 refl) $ free_all ! refl $ keep ! (2 ∷ 0 ∷ []) $
        suffices ! _ (ends_at 𝓛 (ended n) (stayed n) clauses bound (vptr b o) lent (tt, tt) (tt, tt)) $ says ! refl $
        frame ! $ nothing ! $ nothing ! $ fjoin ! $ frame ! $
        feq_i ! (List Val) (vptr b o ∷ []) (vptr b o ∷ []) refl $ fjoin ! $ done !)

  meets : (𝓣 : Tables 𝓤 H) → Meets 𝓛 (ended n).signature (WpFn 𝓤 H 𝓣.C 𝓣.Λ (fn' n)) (closing 𝓛 (ended n) clauses)
  meets 𝓣 =
      walk_Meets 𝓛 (ended n) (stayed n) (Goes-dropped 𝓛 2 (shr_slice_of (0 ∷ []) tt (plain (λ _. u8))) yes (λ κs x f. refl), tt)
      clauses (WpFn 𝓤 H 𝓣.C 𝓣.Λ (fn' n)) (WpFn-mono 𝓤 H 𝓛.laws 𝓣 (fn' n))
      (walked 𝓛 (ended n) (stayed n) clauses (WpFn 𝓤 H 𝓣.C 𝓣.Λ (fn' n))
      (λ κs. (shr_slice_vals, tt)) (λ κs. (shr_slice_Tells (named 0) κs.0 u8, tt))
      (λ κs qs bounds a g are.
      let On : SProp 𝓤 = on_entry 𝓛 (ended n).signature κs qs a (shr_slice_vals a.0, tt) in
      qed 𝓛 (raw On ∷ (given (κs.1.0 ⊑ []) (‵ ftrue) ⊛ given (n * 1 < 2 ^ 63) (‵ ftrue) ⊛ given (length a.0.now ≡ n) (‵ ftrue)) ∷ []) ∵
      move ! (1 ∷ []) $ split3 ! $ drop ! $ drop ! $ learn ! (λ size. drop ! $
      by ! (walk 𝓣.C 𝓣.Λ κs.0 κs.1.0 qs.0 qs.1.0 bounds a.0.ref_ptr.0 a.0.ref_ptr.1 a.0.now are.0.0.1 size))))

pub in_place_spec : {M : Type 1} → stated.statement M
unfolding tables_of
in_place_spec 𝓤 𝓛 𝓜 𝓡 wired n fits =
    let 𝓣 : Tables 𝓤 𝓛.H = tables_of 𝓤 𝓛.H 𝓜 (tables 𝓤 𝓛.H 𝓜 𝓡 𝓡.env) in
    entered 𝓤 𝓛.H (triple_of 𝓛 (ended n).signature (in_place.spec (number n) 𝓛 𝓜.mem 𝓡.returns)) 𝓣.C 𝓣.Λ (#in_place (args n)) (fn' n) (code.unfolded 𝓤 𝓛.H 𝓜 𝓡 wired (number n, tt))
    (meets n 𝓛 𝓜.mem 𝓡.returns 𝓣)
