-- What the walks of thin.rt's functions share: their types, and the steps of the proof kit's calculus that each of them takes. A proof beside
-- a function has its MIR, its contract and where its locals stand, and cites `moves_on` (a thin reader) or `lends_to` (a caller of one).
use mathlib.Core.Path.{◌≡◌, refl, sym, subst}
use Prim.Native.Nat.{ℕ}
use mathlib.Core.List.{[], ◌∷◌, List, ◌++◌}
use seplogic.Ra.Ura.{Ura}
use base.Fraction.{full_share}
use mir.Syntax.{Callee, Ty, Opd, named, Lifetime, imm, mut, w8, ty_int, ty_ref, value_local, deref, field, place, copy, rv_opd, assign, seq, call, return, Local, local}
use mir.Syntax.{Sym, ty_struct, tcons, tnil, Place as MirPlace, Step as PStep, Body as MirBody}
use mir.Val.{Val, vptr, vstruct, vcons, vnil, has_ty, WT}
use lib.Dec.{T as Holds}
use lib.ListN.{length}
use base.Logic.{SProp, ent, sep, ex, guard, emp}
use base.Stored.{Gv}
use base.Fml.{GName, Lft, Share, Fml, ftrue, fsep, flft, fdead, fobs, fauth, fres, fbor, fobor, flent, fat, froom, fdies}
use prog.Wp.{Heap, Env, Spot, spot_of, Calls, Loops}
use types.Logic.{Logic, sem}
use contract.Monad.{fact}
use types.Kit.{Post, Goal, runs, lands, frees, prop, at_ret, Soaks, Item, mean, Seq, Step, step, ‵, raw, ◌⊛◌, ⋆, some, later, ◌$◌, ◌∵◌, !, qed, move, drop, use1, use3, split, join, rewrite, use2, pick, given, learn, fsplit, fsplit3, fjoin, fjoin3, fpick, fpack, feq_i, frame, keep, show, check, await, done}
use types.Run.{Reads, Walks, Finds, Opds, look, init, store, forget, stop, hop, fld, from, load, of_opd, assigns, land, returns, free1, free0}
use types.Part.{whole, sub, look_in}
use types.Tokens.{lft_new, lft_end}
use sound.WpLaws.{FmC}
use denote.Triple.Statement.{Contract, Triple}
use denote.Triple.Call.{calls_at}
use types.SemTy.{Body}
use denote.RattleType.{RattleType}
use denote.Laws.{Is, shows}
use denote.Memory.{mem, cell_at, part_of, pointee}
use denote.Builtin.{u8}
use denote.Ref.{Bor, MutBor, MutRef}
use denote.Slice.{slice_val, slice_ty, ShrSlice, shr_slice_copy}
use denote.Plain.{uint_row_laws}
use denote.Lend.{lends_ref, ref_back}
use denote.Steps.{opens, closes, owned, peeks, heard, nothing}
use denote.Struct.Steps.{spelt}
use denote.Struct.Laws as LL
use Rattle.syntax.specs.declared.Place.{Place}
use Rattle.syntax.specs.contracts.Place as P
use Rattle.syntax.proofs.Place.TheLaws as P'

-- a place's row, and its machine value
abbrev pub R : RattleType
R = P.the_row

abbrev pub low : Place → Val
low p = P'.lowered p

-- what stands in a context: the place in a cell, a lent place's last value so far and in the end, and its borrow
abbrev pub cell : {M : Type 1} {𝓤 : Ura M} → ℕ → ℕ → Place → Item 𝓤
cell b o p = ‵ (fat full_share P'.mir b o (low p))

abbrev pub seen : {M : Type 1} {𝓤 : Ura M} → GName → Place → Item 𝓤
seen γ p = ‵ (fobs γ (R.coded.code p))

abbrev pub last : {M : Type 1} {𝓤 : Ura M} → GName → Place → Item 𝓤
last γ p = ‵ (fres γ (R.coded.code p))

abbrev pub borrow : {M : Type 1} {𝓤 : Ura M} → Lft → ℕ → ℕ → GName → Item 𝓤
borrow κ b o γ = ‵ (fbor κ (Body (mem R) b o γ))

-- ## Types

-- What a record is, as a walk needs it. The types of records are large, so a walk is over any type, and meets them at its end only.
pub record What : Type 2 where
  pub row : RattleType
  pub mir : Ty
  pub low : row.Denot → Val
  pub is-low : (w : row.Denot) (v : Val) → Is row w (v ∷ []) → v ≡ low w
  pub typed : {M : Type 1} {𝓤 : Ura M} (𝓛 : Logic 𝓤) (w : row.Denot) (v : Val) → Is row w (v ∷ []) → Holds (has_ty mir v) × WT v

-- the struct of what was read and the place after it
abbrev pub pair_ty : Sym → Ty → Ty
pair_ty ν τ = ty_struct ν (tcons τ (tcons P'.mir tnil))

abbrev pub pair_val : Val → Place → Val
pair_val v p = vstruct (vcons v (vcons (low p) vnil))

pub record Pair (X : What) : Type 2 where
  pub row : RattleType
  pub name : Sym
  pub what : row.Denot → X.row.Denot
  pub place : row.Denot → Place
  pub is-low : (r : row.Denot) (v : Val) → Is row r (v ∷ []) → v ≡ pair_val (X.low (what r)) (place r)
  pub what_is : (r : row.Denot) (v : Val) → Is row r (v ∷ []) → Is X.row (what r) (X.low (what r) ∷ [])
  pub place_is : (r : row.Denot) (v : Val) → Is row r (v ∷ []) → Is R (place r) (low (place r) ∷ [])
  pub typed : {M : Type 1} {𝓤 : Ura M} (𝓛 : Logic 𝓤) (r : row.Denot) (v : Val) → Is row r (v ∷ []) → Holds (has_ty (pair_ty name X.mir) v) × WT v
  pub both : X.row.Denot → Place → row.Denot
  pub both_is : (w : X.row.Denot) (p : Place) → Is X.row w (X.low w ∷ []) → Is R p (low p ∷ []) → Is row (both w p) (pair_val (X.low w) p ∷ [])

-- ## MIR

-- The MIR of a thin reader after its parameters: the place is copied into local n and passed on, and the answer comes into local m.
abbrev pub moving : Callee → List Opd → ℕ → ℕ → MirBody
moving f xs n m =
    seq (assign (place n []) (rv_opd (copy (place 2 (deref P'.mir ∷ []))))) (seq (call f xs (place m []))
    (seq (assign (place 2 (deref P'.mir ∷ [])) (rv_opd (copy (place m (field 1 ∷ []))))) (seq (assign (place 0 []) (rv_opd (copy (place m (field 0 ∷ []))))) return)))

-- types of locals
abbrev pub held : Ty → Local
held τ = local τ value_local

abbrev pub stream_ty : Ty
stream_ty = slice_ty (ty_ref (named 0) imm (ty_int w8))

abbrev pub lent_ty : Lifetime → Ty
lent_ty ℓ = ty_ref ℓ mut (pointee R.written)

-- a machine value that a place is: it has the place's MIR type
pub typed : {M : Type 1} {𝓤 : Ura M} (𝓛 : Logic 𝓤) (p : Place) (v : Val) → Is R p (v ∷ []) → Holds (has_ty P'.mir v) × WT v
typed 𝓛 p v is = ((LL.lawful P.the_type P'.the_laws 𝓛).typed p (v ∷ []) is).0

-- the room of each local, as it stands before they are freed
abbrev pub rooms : {M : Type 1} (𝓤 : Ura M) (H : Heap 𝓤) → Env 𝓤 H → List (Item 𝓤)
rooms 𝓤 H [] = []
rooms 𝓤 H ((τ, b) ∷ E) = ‵ (froom τ b 0) ∷ ‵ (fdies τ b) ∷ rooms 𝓤 H E

-- ## Steps

module _ {M : Type 1} {𝓤 : Ura M} {𝓛 : Logic 𝓤} {K : Type 0} {Γ : List (Item 𝓤)} {G : Goal 𝓤 𝓛.H} where
  -- A place that is owned in memory: its cell, with its machine value.
  spelled : K → (h : Place) (vs : List Val) (b o : ℕ) → (Is R h (low h ∷ []) → Seq K 𝓛 (cell b o h ∷ Γ) G) → Seq K 𝓛 (‵ (cell_at full_share R.mir vs b o) ∷ ‵ (R.own_val h vs) ∷ Γ) G
  spelled t h vs b o k =
      spelt t R (Is R) (shows 𝓛 R) (LL.vals P.the_type P'.the_laws) (LL.tells P.the_type P'.the_laws) full_share h vs b o $
      use1 𝓛 (cell b o h) (𝓛.laws.raw_at full_share P'.mir b o (low h)) $ move t (1 ∷ []) $ peeks t R (Is R) (shows 𝓛 R) h (low h ∷ []) (λ is. drop t $ k is)

module _ {M : Type 1} {𝓤 : Ura M} {𝓛 : Logic 𝓤} {K : Type 0} {Γ : List (Item 𝓤)} {G : Goal 𝓤 𝓛.H} where
  -- All locals are freed.
  open 𝓛 use {H}

  pub frees_all : K → (E : Env 𝓤 H) → Step K 𝓛 Γ G (rooms 𝓤 H E ++ Γ) (frees E G)
  frees_all t [] = free0 t
  frees_all t ((τ, b) ∷ E) = step (λ s. free1 t $ frees_all t E $ s)

  -- The borrow is opened: the place's cell, the open borrow and both halves of its ghost variable.
  pub opened : K → Soaks G → {κ : Lft} {q : Share} {γ : GName} (h : Place) (b o : ℕ)
      → (Is R h (low h ∷ []) → Seq K 𝓛 (cell b o h ∷ ‵ (fobor κ q (Body (mem R) b o γ)) ∷ seen γ h ∷ ‵ (fauth γ (R.coded.code h)) ∷ Γ) G)
      → Seq K 𝓛 (seen γ h ∷ borrow κ b o γ ∷ ‵ (flft κ q) ∷ Γ) G
  opened t z h b o k = opens t z R {h = h} b o (λ vs. spelled t h vs b o k)

  -- It is shut at another place.
  pub shut : K → Soaks G → {κ : Lft} {q : Share} {γ : GName} {u v : Gv} (h : Place) (b o : ℕ) → Is R h (low h ∷ [])
      → Step K 𝓛 (seen γ h ∷ borrow κ b o γ ∷ ‵ (flft κ q) ∷ Γ) G
      (cell b o h ∷ ‵ (fobor κ q (Body (mem R) b o γ)) ∷ ‵ (fobs γ u) ∷ ‵ (fauth γ v) ∷ Γ) G
  shut t z h b o is = step (λ s.
      use1 𝓛 (‵ (cell_at full_share R.mir (low h ∷ []) b o)) (𝓛.laws.at_raw full_share P'.mir b o (low h)) $
      owned t R (Is R) (LL.makes P.the_type P'.the_plain 𝓛) h (low h ∷ []) is $ move t (1 ∷ 0 ∷ []) $ closes t z R h (low h ∷ []) b o $ s)

  -- A call has returned: its result is plain data, and what its contract says of it is learned.
  pub answered : K → Soaks G → {token : Item 𝓤} (T : RattleType) (E : T.Denot → SProp 𝓤) (φ : T.Denot → Type 0) → ((r : T.Denot) → ent 𝓤 (E r) (fact 𝓤 (φ r))) → (u : Val)
      → ((r : T.Denot) → φ r → Is T r (u ∷ []) → Seq K 𝓛 (token ∷ Γ) G)
      → Seq K 𝓛 (later (some (λ (r : T.Denot). (token ⊛ ‵ (T.own_val r (u ∷ []))) ⊛ raw (E r))) ∷ Γ) G
  answered t z T E φ said u k =
      await t z $ pick t (λ r. split t $ move t (1 ∷ []) $ use1 𝓛 (raw (fact 𝓤 (φ r))) (said r) $ heard t (φ r) (λ e. split t $ move t (1 ∷ []) $
      peeks t T (Is T) (shows 𝓛 T) r (u ∷ []) (λ is. drop t $ k r e is)))

  -- The same of a reader that moved a lent place: its last value is learned too.
  pub moved : K → Soaks G → {token : Item 𝓤} {γ : GName} (T : RattleType) (E : T.Denot → SProp 𝓤) (φ : T.Denot → Place → Type 0)
      → ((r : T.Denot) → ent 𝓤 (E r) (mean 𝓛 (some (λ (p : Place). given (φ r p) (last γ p))))) → (u : Val)
      → ((r : T.Denot) (p : Place) → φ r p → Is T r (u ∷ []) → Seq K 𝓛 (last γ p ∷ token ∷ Γ) G)
      → Seq K 𝓛 (later (some (λ (r : T.Denot). (token ⊛ ‵ (T.own_val r (u ∷ []))) ⊛ raw (E r))) ∷ Γ) G
  moved t z {token} {γ} T E φ said u k =
      await t z $ pick t (λ r. split t $ move t (1 ∷ []) $ use1 𝓛 (some (λ (p : Place). given (φ r p) (last γ p))) (said r) $ pick t (λ p. learn t (λ e. move t (1 ∷ []) $ split t $ move t (1 ∷ []) $
      peeks t T (Is T) (shows 𝓛 T) r (u ∷ []) (λ is. drop t $ move t (1 ∷ 0 ∷ []) $ k r p e is))))

  -- A local place is lent for the lifetime of a call.
  pub lent : K → Soaks G → (κ : Lft) (h : Place) (b : ℕ) → Is R h (low h ∷ [])
      → ((γ : GName) → Seq K 𝓛 (‵ ((MutRef (named 1) κ R).own_val (record { ref_ptr = (b, 0); ghost_name = γ; now = h }) (vptr b 0 ∷ [])) ∷ ‵ (flent κ (Body (mem R) b 0 γ)) ∷ Γ) G)
      → Seq K 𝓛 (cell b 0 h ∷ Γ) G
  unfolding part_of
  lent t z κ h b is k =
      use1 𝓛 (‵ (cell_at full_share R.mir (low h ∷ []) b 0)) (𝓛.laws.at_raw full_share P'.mir b 0 (low h)) $
      owned t R (Is R) (LL.makes P.the_type P'.the_plain 𝓛) h (low h ∷ []) is $ move t (1 ∷ 0 ∷ []) $ fjoin t $
      fpack t (List Val) (λ us. fsep (cell_at full_share R.mir us b 0) (R.own_val h us)) (low h ∷ []) $
      use1 𝓛 (later (some (λ (γ : GName). ‵ ((MutRef (named 1) κ R).own_val (record { ref_ptr = (b, 0); ghost_name = γ; now = h }) (vptr b 0 ∷ [])) ⊛ ‵ (flent κ (Body (mem R) b 0 γ))))) (lends_ref 𝓛 R (named 1) κ h b 0) $
      await t z $ pick t (λ γ. split t $ k γ)

  -- The lifetime is over: it is back, at its last value.
  pub back : K → Soaks G → {κ : Lft} {γ : GName} (h : Place) (b : ℕ)
      → (Is R h (low h ∷ []) → Seq K 𝓛 (cell b 0 h ∷ Γ) G)
      → Seq K 𝓛 (‵ (fdead κ) ∷ ‵ (flent κ (Body (mem R) b 0 γ)) ∷ last γ h ∷ Γ) G
  unfolding part_of
  back t z {κ} {γ} h b k = use3 𝓛 (later (‵ ((mem R).own_at h b 0))) (ref_back 𝓛 R κ γ h b 0) $ await t z $ fpick t (λ vs. fsplit t $ spelled t h vs b 0 k)

-- ## A thin reader

module _ {M : Type 1} {𝓤 : Ura M} (𝓛 : Logic 𝓤) (κ κ' : Lft) (q q' : Share) (s : Bor (List ℕ)) where
  -- what a slice owns, and what a lent place owns
  open 𝓛 use {H, A}

  abbrev pub Stream : Fml
  Stream = (ShrSlice (named 0) κ u8).own_val s (slice_val s.ref_ptr (length s.now) ∷ [])

  abbrev pub Lends : ℕ → ℕ → GName → Place → Fml
  Lends b o γ h = (MutRef (named 1) κ' R).own_val (record { ref_ptr = (b, o); ghost_name = γ; now = h }) (vptr b o ∷ [])

  -- what a thin reader has at entry, with X of its further parameters; and of the two references apart, which is what it has at exit
  abbrev pub Entry : ℕ → ℕ → GName → Place → Fml → List (Item 𝓤)
  Entry b o γ h X = (‵ (flft κ q) ⊛ ‵ (flft κ' q') ⊛ ‵ ftrue) ∷ ‵ (fsep Stream (fsep (Lends b o γ h) X)) ∷ []

  abbrev pub Left : ℕ → ℕ → GName → Place → List (Item 𝓤)
  Left b o γ p = seen γ p ∷ borrow κ' b o γ ∷ ‵ (flft κ' q') ∷ ‵ (flft κ q) ∷ ‵ Stream ∷ []

  pub enters : {K : Type 0} {Γ : List (Item 𝓤)} {G : Goal 𝓤 H} → K → (b o : ℕ) (γ : GName) (h : Place) (X : Fml)
      → Step K 𝓛 (Left b o γ h ++ (‵ Stream ∷ ‵ X ∷ ‵ ftrue ∷ Γ)) G (Entry b o γ h X ++ Γ) G
  enters t b o γ h X = step (λ n.
      split t $ move t (2 ∷ []) $ fsplit t $ move t (1 ∷ []) $ fsplit t $ fsplit3 t $ drop t $
      move t (3 ∷ []) $ use1 𝓛 (‵ Stream ⊛ ‵ Stream) ((shr_slice_copy 𝓛 (named 0) κ u8 (uint_row_laws w8)).twice s _) $ split t $ move t (6 ∷ []) $ split t $ move t (4 ∷ 5 ∷ 0 ∷ 7 ∷ 2 ∷ 3 ∷ 6 ∷ []) $ n)

  -- The references are whole again at exit; Z is of the result.
  pub leaves : (b o : ℕ) (γ : GName) (h : Place) (X Z : Fml)
      → ent 𝓤 (⋆ 𝓛 (‵ Z ∷ ‵ X ∷ Left b o γ h))
      (sep 𝓤 (sep 𝓤 (A.lft κ q) (sep 𝓤 (A.lft κ' q') (emp 𝓤))) (sep 𝓤 (sem 𝓛 (fsep Stream (fsep (Lends b o γ h) X))) (sem 𝓛 Z)))
  leaves b o γ h X Z =
      qed 𝓛 (‵ Z ∷ ‵ X ∷ Left b o γ h) ∵
      nothing ! $ move ! (5 ∷ 0 ∷ []) $ join ! $ move ! (5 ∷ 0 ∷ []) $ join ! $ frame ! $
      -- [what the result owns; X; obs; the borrow; what s owns]
      move ! (2 ∷ 3 ∷ []) $ feq_i ! (List Val) (vptr b o ∷ []) (vptr b o ∷ []) refl $ fjoin3 ! $ move ! (0 ∷ 2 ∷ []) $ fjoin ! $ move ! (2 ∷ 0 ∷ []) $ fjoin ! $ done !

  -- What a reader by value asks: the token, the slice and the place; X is of its further parameters.
  pub asks : (h : Place) (X : Fml) → Is R h (low h ∷ [])
      → ent 𝓤 (⋆ 𝓛 (‵ X ∷ ‵ (flft κ q) ∷ ‵ Stream ∷ [])) (sep 𝓤 (sep 𝓤 (A.lft κ q) (emp 𝓤)) (sem 𝓛 (fsep Stream (fsep (R.own_val h (low h ∷ [])) X))))
  asks h X is =
      qed 𝓛 (‵ X ∷ ‵ (flft κ q) ∷ ‵ Stream ∷ []) ∵ nothing ! $ move ! (2 ∷ 0 ∷ []) $ join ! $ frame ! $
      owned ! R (Is R) (LL.makes P.the_type P'.the_plain 𝓛) h (low h ∷ []) is $ fjoin ! $ move ! (1 ∷ 0 ∷ []) $ fjoin ! $ done !

  -- What a thin reader asks.
  pub asks-lent : (b o : ℕ) (γ : GName) (h : Place) (X : Fml)
      → ent 𝓤 (⋆ 𝓛 (‵ X ∷ ‵ (flft κ q) ∷ ‵ (flft κ' q') ∷ ‵ Stream ∷ ‵ (Lends b o γ h) ∷ [])) (sep 𝓤 (sep 𝓤 (A.lft κ q) (sep 𝓤 (A.lft κ' q') (emp 𝓤))) (sem 𝓛 (fsep Stream (fsep (Lends b o γ h) X))))
  asks-lent b o γ h X =
      qed 𝓛 (‵ X ∷ ‵ (flft κ q) ∷ ‵ (flft κ' q') ∷ ‵ Stream ∷ ‵ (Lends b o γ h) ∷ []) ∵ nothing ! $ move ! (3 ∷ 0 ∷ []) $ join ! $ move ! (2 ∷ 0 ∷ []) $ join ! $ frame ! $
      move ! (2 ∷ 0 ∷ []) $ fjoin ! $ move ! (1 ∷ 0 ∷ []) $ fjoin ! $ done !

  -- local i lies at the block l
  abbrev pub IsLocalAt : Env 𝓤 H → ℕ → Ty → ℕ → Type 0
  IsLocalAt E i τ l = spot_of 𝓤 H E i ≡ (τ, l, 0)

  found : {K : Type 0} {Γ : List (Item 𝓤)} {E : Env 𝓤 H} → K → (i : ℕ) {τ : Ty} {l : ℕ} {st : List PStep} {sp : Spot 𝓤 H} → IsLocalAt E i τ l → Walks K 𝓛 Γ E (τ, l, 0) st sp → Finds K 𝓛 Γ E (place i st) sp
  found {K} {Γ} {E} t i {τ} {l} {st} {sp} e w = from t (subst (λ (z : Spot 𝓤 H). Walks K 𝓛 Γ E z st sp) (sym e) w)

  returned : {K : Type 0} {Γ : List (Item 𝓤)} {E : Env 𝓤 H} {C : Calls 𝓤 H} {Λ : Loops 𝓤 H} {Z : Val → SProp 𝓤} → K → {τ : Ty} {l : ℕ} {u : Val} → IsLocalAt E 0 τ l → Reads K 𝓛 Γ τ l 0 u
      → Step K 𝓛 Γ (frees E (prop (Z u))) Γ (runs C Λ E return (at_ret E Z))
  returned {K} {Γ} t {u = u} e r = returns t (subst (λ (z : Spot 𝓤 H). Reads K 𝓛 Γ z.0 z.1 0 u) (sym e) r)

  module _ (X : What) (Y : Pair X) where
    -- a call of the reader by value has returned
    abbrev pub Answer : (Y.row.Denot → SProp 𝓤) → Val → Item 𝓤
    Answer Q u = later (some (λ (r : Y.row.Denot). ((‵ (flft κ q) ⊛ ‵ ftrue) ⊛ ‵ (Y.row.own_val r (u ∷ []))) ⊛ raw (Q r)))

    -- the reader by value, at its call: what it is passed, and what is known of its answer
    pub record ByValue (c : Contract 𝓤) (h : Place) (vs : List Val) (φ : X.row.Denot → Place → Type 0) : Type 2 where
      pub to : c.Ghost
      pub args : c.args to ≡ vs
      pub said : Y.row.Denot → SProp 𝓤
      pub goes : Is R h (low h ∷ []) → ent 𝓤 (⋆ 𝓛 (‵ (flft κ q) ∷ ‵ Stream ∷ [])) (c.pre to)
      pub came : (u : Val) → ent 𝓤 (c.post to u) (mean 𝓛 (Answer said u))
      pub tells : (r : Y.row.Denot) → ent 𝓤 (said r) (fact 𝓤 (φ (Y.what r) (Y.place r)))

    -- The body of a thin reader: the place is copied out of the borrow and passed on, the place of the answer is stored, and what was read is returned.
    pub moves_on : {K : Type 0} {E : Env 𝓤 H} {C : Calls 𝓤 H} {Λ : Loops 𝓤 H} {Γ : List (Item 𝓤)} {Z : Val → SProp 𝓤} {f : Callee} {xs : List Opd} {n m lₙ lₘ l₂ l₀ : ℕ} {τ₂ : Ty} → K
        → IsLocalAt E n P'.mir lₙ → IsLocalAt E m (pair_ty Y.name X.mir) lₘ → IsLocalAt E 2 τ₂ l₂ → IsLocalAt E 0 X.mir l₀ → (b o : ℕ) (γ : GName) (h : Place) (vs : List Val) (φ : X.row.Denot → Place → Type 0)
        → FmC 𝓤 H 𝓛.laws C → (c : Contract 𝓤) → Triple 𝓤 (C f) c → ByValue c h vs φ
        → ((X₀ X₁ X₂ X₃ X₄ : Item 𝓤) → Opds K 𝓛 (X₀ ∷ X₁ ∷ X₂ ∷ X₃ ∷ X₄ ∷ cell lₙ 0 h ∷ ‵ (froom (pair_ty Y.name X.mir) lₘ 0) ∷ ‵ (fat full_share τ₂ l₂ 0 (vptr b o)) ∷ ‵ (froom X.mir l₀ 0) ∷ Γ) E xs vs)
        → ((w : X.row.Denot) (p : Place) → φ w p → Is X.row w (X.low w ∷ [])
        → Seq K 𝓛 (seen γ p ∷ borrow κ' b o γ ∷ ‵ (flft κ' q') ∷ ‵ (flft κ q) ∷ ‵ (froom P'.mir lₙ 0) ∷ ‵ (froom (pair_ty Y.name X.mir) lₘ 0) ∷ ‵ (froom τ₂ l₂ 0) ∷ ‵ (froom X.mir l₀ 0) ∷ Γ) (frees E (prop (Z (X.low w)))))
        → Seq K 𝓛 (seen γ h ∷ borrow κ' b o γ ∷ ‵ (flft κ' q') ∷ ‵ (flft κ q) ∷ ‵ Stream ∷ ‵ (froom P'.mir lₙ 0) ∷ ‵ (froom (pair_ty Y.name X.mir) lₘ 0) ∷ ‵ (fat full_share τ₂ l₂ 0 (vptr b o)) ∷ ‵ (froom X.mir l₀ 0) ∷ Γ)
        (runs C Λ E (moving f xs n m) (at_ret E Z))
    moves_on {E = E} {xs = xs} {n = n} {m = m} {lₘ = lₘ} t atₙ atₘ at₂ at₀ b o γ h vs φ fm c known r₀ ops k =
        opened t tt h b o (λ is.
        -- [the cell; the open borrow; obs; auth; s's token; what s owns; _n; _m; _2; _0]
        assigns t (of_opd t (load t (found t 2 at₂ (hop t (look t 8 refl) (stop t))) (look t 0 refl))) (found t n atₙ (stop t)) (init t 6 refl (typed 𝓛 h (low h) is)) $
        move t (4 ∷ 5 ∷ []) $ use2 𝓛 (raw (c.pre r₀.to)) (r₀.goes is) $ calls_at t fm c known r₀.to (subst (Opds _ 𝓛 _ E xs) (sym r₀.args) (ops _ _ _ _ _)) (λ u.
        use1 𝓛 (Answer r₀.said u) (r₀.came u) $ answered t tt Y.row r₀.said (λ r. φ (Y.what r) (Y.place r)) r₀.tells u (λ r e i.
        -- [s's token; the cell; the open borrow; obs; auth; _n; _m; _2; _0]
        land t (found t m atₘ (stop t)) (init t 6 refl (Y.typed 𝓛 r u i)) $
        rewrite t 6 (λ (w : Val). ‵ (fat full_share (pair_ty Y.name X.mir) lₘ 0 w)) (Y.is-low r u i) refl $
        assigns t (of_opd t (load t (found t m atₘ (fld t refl (stop t))) (look_in t 6 (sub t 1 refl (whole t))))) (found t 2 at₂ (hop t (look t 7 refl) (stop t))) (store t 1 refl (typed 𝓛 (Y.place r) _ (Y.place_is r u i))) $
        assigns t (of_opd t (load t (found t m atₘ (fld t refl (stop t))) (look_in t 6 (sub t 0 refl (whole t))))) (found t 0 at₀ (stop t)) (init t 8 refl (X.typed 𝓛 (Y.what r) _ (Y.what_is r u i))) $
        move t (1 ∷ 2 ∷ 3 ∷ 4 ∷ []) $ shut t tt (Y.place r) b o (Y.place_is r u i) $
        returned t at₀ (look t 7 refl) $ forget t 4 refl $ forget t 5 refl $ forget t 6 refl $ forget t 7 refl $
        move t (3 ∷ []) $ split t $ move t (2 ∷ 3 ∷ 4 ∷ 0 ∷ 1 ∷ []) $ move t (4 ∷ []) $ drop t $ k (Y.what r) (Y.place r) e (Y.what_is r u i))))

-- ## A caller of a thin reader

module _ {M : Type 1} {𝓤 : Ura M} (𝓛 : Logic 𝓤) where
  -- What a thin reader's contract says at exit: φ of its last place, under the name of the loan. L is of its further parameters.
  open 𝓛 use {H}

  pub told : (L : Fml) {Z : Type 0} (γ : GName) (φ : Place → Type 0)
      → ent 𝓤 (ex 𝓤 (λ (ws : Unit {0} × (Place × Z)). sep 𝓤 (sem 𝓛 (fsep ftrue (fsep (fres γ (R.coded.code ws.1.0)) L))) (fact 𝓤 (φ ws.1.0))))
      (mean 𝓛 (some (λ (p : Place). given (φ p) (last γ p))))
  told L {Z} γ φ =
      qed 𝓛 (some (λ (ws : Unit {0} × (Place × Z)). ‵ (fsep ftrue (fsep (fres γ (R.coded.code ws.1.0)) L)) ⊛ raw (fact 𝓤 (φ ws.1.0))) ∷ []) ∵
      pick ! (λ ws. split ! $ move ! (1 ∷ []) $ heard ! (φ ws.1.0) (λ e. fsplit ! $ move ! (1 ∷ []) $ fsplit ! $
      show ! (λ (p : Place). guard 𝓤 (φ p) (sem 𝓛 (fres γ (R.coded.code p)))) ws.1.0 $ check ! e $ keep ! (0 ∷ []) $ done !))

  -- A local place is lent to a thin reader, and comes back moved on.
  module _ (κ : Lft) (q : Share) (s : Bor (List ℕ)) (h : Place) (b : ℕ) (X : What) where
    abbrev pub Asks : ℕ → GName → List (Item 𝓤)
    Asks α γ = (‵ (flft κ q) ⊛ ‵ (flft (α ∷ []) full_share)) ∷ ‵ (Stream 𝓛 κ (α ∷ []) q full_share s) ∷ ‵ (Lends 𝓛 κ (α ∷ []) q full_share s b 0 γ h) ∷ []

    abbrev pub Answers : (X.row.Denot → SProp 𝓤) → ℕ → Val → Item 𝓤
    Answers Q α u = later (some (λ (r : X.row.Denot). ((‵ (flft κ q) ⊛ ‵ (flft (α ∷ []) full_share) ⊛ ‵ ftrue) ⊛ ‵ (X.row.own_val r (u ∷ []))) ⊛ raw (Q r)))

    -- the thin reader at its call, for the lifetime α and under the name γ
    pub record ByLoan (c : Contract 𝓤) (vs : List Val) (φ : X.row.Denot → Place → Type 0) : Type 2 where
      pub to : ℕ → GName → c.Ghost
      pub args : (α : ℕ) (γ : GName) → c.args (to α γ) ≡ vs
      pub said : ℕ → GName → X.row.Denot → SProp 𝓤
      pub goes : (α : ℕ) (γ : GName) → ent 𝓤 (⋆ 𝓛 (Asks α γ)) (c.pre (to α γ))
      pub came : (α : ℕ) (γ : GName) (u : Val) → ent 𝓤 (c.post (to α γ) u) (mean 𝓛 (Answers (said α γ) α u))
      pub tells : (α : ℕ) (γ : GName) (w : X.row.Denot) → ent 𝓤 (said α γ w) (mean 𝓛 (some (λ (p : Place). given (φ w p) (last γ p))))

    pub lends_to : {K : Type 0} {Γ : List (Item 𝓤)} {E : Env 𝓤 H} {C : Calls 𝓤 H} {Λ : Loops 𝓤 H} {Z : Post 𝓤 H} {f : Callee} {xs : List Opd} {d : MirPlace} {rest : MirBody} → K → Is R h (low h ∷ []) → (vs : List Val) (φ : X.row.Denot → Place → Type 0)
        → FmC 𝓤 H 𝓛.laws C → (c : Contract 𝓤) → Triple 𝓤 (C f) c → ByLoan c vs φ → ((X₀ X₁ : Item 𝓤) → Opds K 𝓛 (X₀ ∷ X₁ ∷ Γ) E xs vs)
        → ((u : Val) (w : X.row.Denot) (p : Place) → φ w p → Is X.row w (u ∷ []) → Is R p (low p ∷ []) → Seq K 𝓛 (cell b 0 p ∷ ‵ (flft κ q) ∷ Γ) (lands C Λ E d u rest Z))
        → Seq K 𝓛 (cell b 0 h ∷ ‵ (flft κ q) ∷ ‵ (Stream 𝓛 κ κ q q s) ∷ Γ) (runs C Λ E (seq (call f xs d) rest) Z)
    lends_to {E = E} {xs = xs} t is vs φ fm c known r₀ ops k =
        lft_new t tt (λ α. move t (1 ∷ []) $ lent t tt (α ∷ []) h b is (λ γ. move t (3 ∷ 2 ∷ 4 ∷ 0 ∷ []) $ join t $ use3 𝓛 (raw (c.pre (r₀.to α γ))) (r₀.goes α γ) $
        calls_at t fm c known (r₀.to α γ) (subst (Opds _ 𝓛 _ E xs) (sym (r₀.args α γ)) (ops _ _)) (λ u. use1 𝓛 (Answers (r₀.said α γ) α u) (r₀.came α γ u) $ moved t tt X.row (r₀.said α γ) φ (r₀.tells α γ) u (λ w p e i.
        -- [the last place; the tokens; the loan]
        move t (1 ∷ []) $ split t $ move t (1 ∷ []) $ split t $ lft_end t tt $ move t (0 ∷ 4 ∷ 3 ∷ []) $ back t tt p b (λ j. move t (1 ∷ []) $ drop t $ k u w p e i j)))))
