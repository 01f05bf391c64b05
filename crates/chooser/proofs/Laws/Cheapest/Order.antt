-- The order between plans in words is that of their keys, and it is total on the plans of 01.
use Rattle.std.specs.Prelude.{◌≡◌, refl, ◌≢◌, ◌⊎◌, ◌↔◌, Bool, true, false, List, [], ◌∷◌, ℤ, T, get_or}
use Rattle.std.proofs.Common.{sym, ap, ap₂, subst, ◌∙◌, inl, inr, arith}
use Prim.Native.Nat.{ℕ, ◌<◌}
use Rattle.sheet.specs.declared.Plan.{Plan}
use Rattle.sheet.specs.declared.Plan.TheVariants.{J, I}
use Rattle.sheet.proofs.Laws.Plan.Slots.{second_told}
use Rattle.sheet.specs.Plan.{slots}
use Rattle.written.specs.Valid.{Valid, for_j, for_i}
use Rattle.written.specs.Written.{first, written_additions, written_doublings}
use Rattle.chooser.specs.Lexicographic.{before}
use Rattle.chooser.specs.Lexicographic.Order.{Decides, before_less, before_agrees, before_parts, before_self, before_same, before_onward}
use Rattle.chooser.specs.Cheapest.{key, rank, Sooner, fewer_additions, fewer_doublings, fewer_slots, joint_first, smaller_first, Total}

-- J comes before I by the ranks, and both plans I have the same
rank_less : (p q : Plan) → rank p < rank q → (p ≡ J) × (q ≢ J)
rank_less J J h = absurd (omega arith)
rank_less J (I m1 m2) h = (refl, λ e. omega (arith, ap rank e))
rank_less (I m1 m2) J h = absurd (omega arith)
rank_less (I m1 m2) (I n1 n2) h = absurd (omega arith)

rank_joint : (p q : Plan) → p ≡ J → q ≢ J → rank p < rank q
rank_joint p J e f = absurd (f refl)
rank_joint p (I m1 m2) e f = omega (arith, ap rank e)

rank_same : (p q : Plan) → p ≢ J → q ≢ J → rank p ≡ rank q
rank_same J q e f = absurd (e refl)
rank_same (I m1 m2) J e f = absurd (f refl)
rank_same (I m1 m2) (I n1 n2) e f = refl

both_other : (p q : Plan) → rank p ≡ rank q → first p < first q → (p ≢ J) × (q ≢ J)
both_other J J e h = absurd (omega arith)
both_other J (I m1 m2) e h = absurd (omega arith)
both_other (I m1 m2) J e h = absurd (omega arith)
both_other (I m1 m2) (I n1 n2) e h = (λ f. omega (arith, ap rank f), λ f. omega (arith, ap rank f))

module _ (k l : ℤ) where
  -- p comes before q in words exactly where its key comes before that of q
  sooner_before : (p q : Plan) → Sooner k l p q → before (key k l p) (key k l q) ≡ true
  unfolding key
  sooner_before p q (fewer_additions h) = before_less _ _ _ _ h
  sooner_before p q (fewer_doublings a h) = before_agrees _ _ _ _ a ∙ before_less _ _ _ _ h
  sooner_before p q (fewer_slots a d h) = before_agrees _ _ _ _ a ∙ before_agrees _ _ _ _ d ∙ before_less _ _ _ _ h
  sooner_before p q (joint_first a d s e f) =
      before_agrees _ _ _ _ a ∙ before_agrees _ _ _ _ d ∙ before_agrees _ _ _ _ s ∙ before_less _ _ _ _ (rank_joint p q e f)
  sooner_before p q (smaller_first a d s e f h) =
      before_agrees _ _ _ _ a ∙ before_agrees _ _ _ _ d ∙ before_agrees _ _ _ _ s ∙ before_agrees _ _ _ _ (rank_same p q e f) ∙ before_less _ _ _ _ h

  before_sooner : (p q : Plan) → before (key k l p) (key k l q) ≡ true → Sooner k l p q
  unfolding key
  before_sooner p q t = additions (before_parts _ _ _ _ t)
    where
      a : Plan → ℕ
      a x = written_additions x k l

      d : Plan → ℕ
      d x = written_doublings x k l

      smaller : a p ≡ a q → d p ≡ d q → slots p ≡ slots q → rank p ≡ rank q → Decides (first p) (first q) [] [] → Sooner k l p q
      smaller u v w x (inl h) = let r = both_other p q x h in smaller_first u v w r.0 r.1 h
      smaller u v w x (inr (y, n)) = absurd (subst T (sym n ∙ before_self []) tt)

      ranked : a p ≡ a q → d p ≡ d q → slots p ≡ slots q → Decides (rank p) (rank q) (first p ∷ []) (first q ∷ []) → Sooner k l p q
      ranked u v w (inl h) = let r = rank_less p q h in joint_first u v w r.0 r.1
      ranked u v w (inr (x, n)) = smaller u v w x (before_parts _ _ _ _ n)

      slotted : a p ≡ a q → d p ≡ d q → Decides (slots p) (slots q) (rank p ∷ first p ∷ []) (rank q ∷ first q ∷ []) → Sooner k l p q
      slotted u v (inl h) = fewer_slots u v h
      slotted u v (inr (w, n)) = ranked u v w (before_parts _ _ _ _ n)

      doublings : a p ≡ a q → Decides (d p) (d q) (slots p ∷ rank p ∷ first p ∷ []) (slots q ∷ rank q ∷ first q ∷ []) → Sooner k l p q
      doublings u (inl h) = fewer_doublings u h
      doublings u (inr (v, n)) = slotted u v (before_parts _ _ _ _ n)

      additions : Decides (a p) (a q) (d p ∷ slots p ∷ rank p ∷ first p ∷ []) (d q ∷ slots q ∷ rank q ∷ first q ∷ []) → Sooner k l p q
      additions (inl h) = fewer_additions h
      additions (inr (u, n)) = doublings u (before_parts _ _ _ _ n)

  pub sooner_exactly : (p q : Plan) → Sooner k l p q ↔ (before (key k l p) (key k l q) ≡ true)
  sooner_exactly p q = (sooner_before p q, before_sooner p q)

-- a plan's key tells the plan
record Parts (p q : Plan) : Type 0 where
  slots_same : slots p ≡ slots q
  rank_same : rank p ≡ rank q
  first_same : first p ≡ first q

parts : (k l : ℤ) (p q : Plan) → key k l p ≡ key k l q → Parts p q
unfolding key
parts k l p q e =
    record {
      slots_same = ap (λ (n : List ℕ). get_or n 2 0) e;
      rank_same = ap (λ (n : List ℕ). get_or n 3 0) e;
      first_same = ap (λ (n : List ℕ). get_or n 4 0) e;
    }

same_plan_lem : {p q : Plan} → Valid p → Valid q → Parts p q → p ≡ q
same_plan_lem for_j for_j e = refl
same_plan_lem for_j (for_i v w) e = absurd (omega (arith, e.rank_same))
same_plan_lem (for_i v w) for_j e = absurd (omega (arith, e.rank_same))
same_plan_lem (for_i {m1} {m2} v w) (for_i {m1 = n1} {m2 = n2} x y) e =
    let slots_told : slots (I m1 m2) ≡ slots (I m1 n2) = e.slots_same ∙ ap (λ (a : ℕ). slots (I a n2)) (sym e.first_same) in
    ap₂ (λ (a b : ℕ). I a b) e.first_same (second_told m1 m2 n2 (omega (arith, v.odd)) w.odd y.odd slots_told)

pub key_only : (k l : ℤ) (p q : Plan) → Valid p → Valid q → key k l p ≡ key k l q → p ≡ q
key_only k l p q v w e = same_plan_lem v w (parts k l p q e)

-- of two plans one comes first
one_first : (k l : ℤ) (p q : Plan) → Valid p → Valid q → p ≢ q → Sooner k l p q ⊎ Sooner k l q p
one_first k l p q v w n = go (before (key k l p) (key k l q)) (before (key k l q) (key k l p)) refl refl
  where
    go : (s t : Bool) → before (key k l p) (key k l q) ≡ s → before (key k l q) (key k l p) ≡ t → Sooner k l p q ⊎ Sooner k l q p
    go true t e f = inl (before_sooner k l p q e)
    go false true e f = inr (before_sooner k l q p f)
    go false false e f = absurd (n (key_only k l p q v w (before_same (key k l p) (key k l q) e f)))

-- the order is total on the plans of 01
pub order_total : (k l : ℤ) → Total k l
order_total k l =
    record {
      never_itself = λ p s. subst T (sym (sooner_before k l p p s) ∙ before_self (key k l p)) tt;
      onward = λ p q r s t. before_sooner k l p r (before_onward (key k l p) (key k l q) (key k l r) (sooner_before k l p q s) (sooner_before k l q r t));
      one_first = one_first k l;
    }
