-- `is_right` meets its contract: each sum against its scalar.
use mathlib.Core.Path.{◌≡◌, sym, ap, ap₂, ◌∙◌}
use mathlib.Core.Bool.{Bool, true, ◌&&◌}
use mathlib.Core.List.{List}
use Prim.Native.Nat.{ℕ}
use lib.IntN.{ℤ}
use Rattle.digits.specs.declared.limits.Limits.{Limits}
use Rattle.sheet.specs.Spelling.{lines}
use Rattle.sheet.specs.Spelling.Field.{is_whole, whole_of}
use Rattle.sheet.specs.Plan.{point}
use Rattle.sheet.specs.Line.{Header}
use Rattle.sheet.specs.Answer.{heading}
use Rattle.sheet.specs.Questions.{unless, same_number, same_point, result, wrong}
use Rattle.lines.specs.Coded.{head_field, ScalarIn}
use Rattle.lines.proofs.FirstLine.{head_scalars}
use Rattle.survey.specs.Survey.{Clear}
use Rattle.reader.proofs.judge.is_right.Goals as goal

-- a field of the first line is a scalar
is-scalar : (limits : Limits) (s : List ℕ) (k : ℕ) (f : List ℕ) → f ≡ head_field s k → ScalarIn limits s k → is_whole 16 limits.figures f ≡ true
is-scalar limits s k f e h = ap (is_whole 16 limits.figures) e ∙ h

pub is_scalar_of-requires-clause-whole : goal.is_scalar_of-requires-clause-whole
is_scalar_of-requires-clause-whole c =
    let a = c.args in
    let clear = c.requires.clear.0 in
    is-scalar a.limits a.sheet.now 7 _ c.head_field.ensures (head_scalars a.limits a.sheet.now clear.head clear.rest clear.heads).is_k

pub is_scalar_of-requires-then-is_scalar_of-clause-whole : goal.is_scalar_of-requires-then-is_scalar_of-clause-whole
is_scalar_of-requires-then-is_scalar_of-clause-whole c =
    let a = c.args in
    let clear = c.requires.clear.0 in
    is-scalar a.limits a.sheet.now 8 _ c.head_field-then-is_scalar_of.ensures (head_scalars a.limits a.sheet.now clear.head clear.rest clear.heads).is_l

module _ (limits : Limits) (s : List ℕ) (p : Clear limits s) where
  -- question 11, put to the header's own scalars
  asked : (b : Bool) → b ≡ same_point (result (lines limits s)) (point p.head.k p.head.l) → unless b 1 ≡ wrong (heading (lines limits s)) (lines limits s)
  unfolding wrong
  asked b e = ap (λ (t : Bool). unless t 1) e ∙ ap (λ (h : Header). unless (same_point (result (lines limits s)) (point h.k h.l)) 1) (sym (ap heading p.heads))

  -- a sum against its scalar
  test : {m : ℤ} (k : ℕ) (x : ℤ) (f : List ℕ) (b : Bool) → f ≡ head_field s k → whole_of 16 (head_field s k) ≡ m → b ≡ same_number x (whole_of 16 f) → b ≡ same_number x m
  test k x f b e z g = g ∙ ap (same_number x) (ap (whole_of 16) e ∙ z)

pub returns-then-is_scalar_of : goal.returns-then-is_scalar_of
returns-then-is_scalar_of c =
    let limits = c.args.limits in
    let s = c.args.sheet.now in
    let (held, none) = c.requires.held in
    let (h, (p, q)) = c.requires.clear in
    let z = head_scalars limits s h.head h.rest h.heads in
    let x = result (lines limits s) in
    asked limits s h _
    (ap₂ (λ (a b : Bool). a && b)
    (sym c.if-is_scalar_of.true ∙ test limits s h 7 x.p _ _ c.head_field.ensures z.k (c.is_scalar_of.ensures x.p p))
    (test limits s h 8 x.q _ _ c.head_field-then-is_scalar_of.ensures z.l (c.is_scalar_of-then-is_scalar_of.ensures x.q q)))

pub returns-else-is_scalar_of : goal.returns-else-is_scalar_of
returns-else-is_scalar_of c =
    let limits = c.args.limits in
    let s = c.args.sheet.now in
    let (held, none) = c.requires.held in
    let (h, (p, q)) = c.requires.clear in
    let z = head_scalars limits s h.head h.rest h.heads in
    let x = result (lines limits s) in
    asked limits s h _
    (c.if-is_scalar_of.false ∙ ap (λ (b : Bool). b && same_number x.q h.head.l)
    (sym c.if-is_scalar_of.false ∙ test limits s h 7 x.p _ _ c.head_field.ensures z.k (c.is_scalar_of.ensures x.p p)))
