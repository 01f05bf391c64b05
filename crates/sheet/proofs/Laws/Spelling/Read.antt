-- What is read is spelled back: a sheet without a misspelled line is the spelling of its lines. Assumes nothing.
use Rattle.std.specs.Prelude.{◌≡◌, ◌≢◌, Bool, true, false, cond, ℕ, zero, suc, ◌+◌, ◌≤◌, eqb, length, get_or, drop, ℤ}
use Rattle.std.proofs.Math.Path.{refl, ap}
use Rattle.std.proofs.Common.{sym, ap₂, subst, ◌∙◌, arith, drop_of_length-le, drop-cons, eqb-true}
use mathlib.Core.List.{List, [], ◌∷◌, ◌++◌, map}
use Rattle.std.proofs.Math.Option.{Option, none, some}
use Prim.Native.Char.{code}
use Rattle.digits.specs.declared.limits.Limits.{Limits}
use Rattle.sheet.specs.Plan.{Point, point, tables}
use Rattle.sheet.specs.Numeral.{numeral, number}
use Rattle.sheet.specs.Numeral.Read.{numeral_number}
use Rattle.sheet.specs.Line.{Kind, joint, interleaved, Header, plan, Line, header, table, load, double, add, end, misspelled}
use Rattle.sheet.specs.Spelling.{line_feed, comma, scalar, digit, kind, fields, join, spell, push, cut, letter, read_kind, read_scalar, read_digit, ◌>>=◌, read_point, read_header, made, sized, read_behind, read_line, read_lines, lines}
use Rattle.sheet.specs.Every.{Every, empty, more}
use Rattle.sheet.specs.Spelling.Cut.{cut_some}
use Rattle.sheet.proofs.Laws.Spelling.Whole.{unread, whole_read}
use Rattle.sheet.specs.Answer.{Accepted}
use Rattle.sheet.specs.Sound.{Moves, stop, doubled, added, Steps, nothing, loaded, move_lines, step_lines, sheet_lines, Sound}
use Rattle.sheet.proofs.Laws.Answer.Exactly.{accepted_exactly}
use Rattle.sheet.specs.Spelling.Read.{HeaderMade, Spelled}

-- ── fields ──────────────────────────────────────────────────────────────────────────────────

decimal_read : (most n : ℕ) (s : List ℕ) → number 10 most s ≡ some n → numeral 10 n ≡ s
decimal_read most n s e = numeral_number 10 (omega arith) (omega arith) most n s e

digit_read : (s : List ℕ) (z : ℤ) → read_digit s ≡ some z → digit z ≡ s
digit_read s z e = whole_read 10 2 (omega arith) (omega arith) s z e

scalar_read : (limits : Limits) (s : List ℕ) (z : ℤ) → read_scalar limits s ≡ some z → scalar z ≡ s
scalar_read limits s z e = whole_read 16 limits.figures (omega arith) (omega arith) s z e

-- a field that has a letter is that letter
letter_of : (s : List ℕ) (c : ℕ) → 1 ≤ c → letter s ≡ c → s ≡ c ∷ []
letter_of [] c h e = absurd (omega arith)
letter_of (x ∷ []) c h e = ap (λ (y : ℕ). y ∷ []) e
letter_of (x ∷ y ∷ s) c h e = absurd (omega arith)

kind_read : (s : List ℕ) (k : Kind) → read_kind s ≡ some k → kind k ≡ s
kind_read s k e = go_j (eqb (letter s) (code "J")) refl e
  where
    go_i : (b : Bool) → eqb (letter s) (code "I") ≡ b → cond b (some interleaved) none ≡ some k → kind k ≡ s
    go_i true t f =
        let g : interleaved ≡ k = cc in
        ap kind (sym g) ∙ sym (letter_of s (code "I") (omega arith) (eqb-true (letter s) (code "I") t))
    go_i false t f = absurd (unread f)

    go_j : (b : Bool) → eqb (letter s) (code "J") ≡ b → cond b (some joint) (cond (eqb (letter s) (code "I")) (some interleaved) none) ≡ some k → kind k ≡ s
    go_j true t f =
        let g : joint ≡ k = cc in
        ap kind (sym g) ∙ sym (letter_of s (code "J") (omega arith) (eqb-true (letter s) (code "J") t))
    go_j false t f = go_i (eqb (letter s) (code "I")) refl f

-- ── lines ───────────────────────────────────────────────────────────────────────────────────

-- n fields from the field i on
fields_from : ℕ → ℕ → List (List ℕ) → List (List ℕ)
fields_from i zero fs = []
fields_from i (suc n) fs = get_or fs i [] ∷ fields_from (suc i) n fs

fields_from_lem : (i n : ℕ) (fs : List (List ℕ)) → length fs ≡ i + n → fields_from i n fs ≡ drop i fs
unfolding fields_from
fields_from_lem i zero fs e = sym (drop_of_length-le fs {i = i} (omega arith))
fields_from_lem i (suc n) fs e =
    ap (λ (x : List (List ℕ)). get_or fs i [] ∷ x) (fields_from_lem (suc i) n fs (omega arith)) ∙ sym (drop-cons fs i [] (omega arith))

point_made : (a b : Option ℤ) (t : Point) → (a >>= λ x. b >>= λ y. some (point x y)) ≡ some t → (a ≡ some t.p) × (b ≡ some t.q)
point_made none b t e = absurd (unread e)
point_made (some x) none t e = absurd (unread e)
point_made (some x) (some y) t e =
    let g : point x y ≡ t = cc in
    (ap (λ (u : Point). some u.p) g, ap (λ (u : Point). some u.q) g)

point_read : (fs : List (List ℕ)) (c : ℕ) (t : Point) → 1 ≤ c → letter (get_or fs 0 []) ≡ c → length fs ≡ 3 → read_point fs ≡ some t
    → (c ∷ []) ∷ digit t.p ∷ digit t.q ∷ [] ≡ fs
unfolding read_point fields_from
point_read fs c t h l n e =
    let m : (read_digit (get_or fs 1 []) ≡ some t.p) × (read_digit (get_or fs 2 []) ≡ some t.q) =
    point_made (read_digit (get_or fs 1 [])) (read_digit (get_or fs 2 [])) t e in
    rw (digit_read (get_or fs 1 []) t.p m.0, digit_read (get_or fs 2 []) t.q m.1, sym (letter_of (get_or fs 0 []) c h l))
    (fields_from_lem 0 3 fs n)

pub header_made : (kd : Option Kind) (m1 m2 sl ad db : Option ℕ) (k l : Option ℤ) (h : Header)
    → (kd >>= λ a. m1 >>= λ b. m2 >>= λ c. sl >>= λ d. ad >>= λ f. db >>= λ g. k >>= λ x. l >>= λ y.
    some (record { kind = a; m1 = b; m2 = c; slots = d; additions = f; doublings = g; k = x; l = y })) ≡ some h
    → HeaderMade kd m1 m2 sl ad db k l h
header_made none m1 m2 sl ad db k l h e = absurd (unread e)
header_made (some a) none m2 sl ad db k l h e = absurd (unread e)
header_made (some a) (some b) none sl ad db k l h e = absurd (unread e)
header_made (some a) (some b) (some c) none ad db k l h e = absurd (unread e)
header_made (some a) (some b) (some c) (some d) none db k l h e = absurd (unread e)
header_made (some a) (some b) (some c) (some d) (some f) none k l h e = absurd (unread e)
header_made (some a) (some b) (some c) (some d) (some f) (some g) none l h e = absurd (unread e)
header_made (some a) (some b) (some c) (some d) (some f) (some g) (some x) none h e = absurd (unread e)
header_made (some a) (some b) (some c) (some d) (some f) (some g) (some x) (some y) h e =
    let q : record { kind = a; m1 = b; m2 = c; slots = d; additions = f; doublings = g; k = x; l = y } ≡ h = cc in
    record {
      made_kind = ap (λ (u : Header). some u.kind) q;
      made_m1 = ap (λ (u : Header). some u.m1) q;
      made_m2 = ap (λ (u : Header). some u.m2) q;
      made_slots = ap (λ (u : Header). some u.slots) q;
      made_additions = ap (λ (u : Header). some u.additions) q;
      made_doublings = ap (λ (u : Header). some u.doublings) q;
      made_k = ap (λ (u : Header). some u.k) q;
      made_l = ap (λ (u : Header). some u.l) q;
    }

header_read : (limits : Limits) (fs : List (List ℕ)) (h : Header) → letter (get_or fs 0 []) ≡ code "S" → length fs ≡ 9 → read_header limits fs ≡ some h
    → fields (header h) ≡ fs
unfolding read_header fields_from
header_read limits fs h l n e =
    let m : HeaderMade
    (read_kind (get_or fs 1 []))
    (number 10 4 (get_or fs 2 []))
    (number 10 4 (get_or fs 3 []))
    (number 10 4 (get_or fs 4 []))
    (number 10 4 (get_or fs 5 []))
    (number 10 4 (get_or fs 6 []))
    (read_scalar limits (get_or fs 7 []))
    (read_scalar limits (get_or fs 8 []))
    h =
    header_made _ _ _ _ _ _ _ _ h e in
    rw (
      kind_read (get_or fs 1 []) h.kind m.made_kind,
      decimal_read 4 h.m1 (get_or fs 2 []) m.made_m1,
      decimal_read 4 h.m2 (get_or fs 3 []) m.made_m2,
      decimal_read 4 h.slots (get_or fs 4 []) m.made_slots,
      decimal_read 4 h.additions (get_or fs 5 []) m.made_additions,
      decimal_read 4 h.doublings (get_or fs 6 []) m.made_doublings,
      scalar_read limits (get_or fs 7 []) h.k m.made_k,
      scalar_read limits (get_or fs 8 []) h.l m.made_l,
      sym (letter_of (get_or fs 0 []) (code "S") (omega arith) l),
    )
    (fields_from_lem 0 9 fs n)

-- a line that is not misspelled has the fields that were read
module _ (fs : List (List ℕ)) (l : Line) (spelled : l ≢ misspelled) where
  -- there were n fields
  sized_as : (n : ℕ) (x : Line) → sized n fs x ≡ l → (length fs ≡ n) × (x ≡ l)
  sized_as n x e = go (eqb (length fs) n) refl e
    where
      go : (b : Bool) → eqb (length fs) n ≡ b → cond b x misspelled ≡ l → (length fs ≡ n) × (x ≡ l)
      go true t f = (eqb-true (length fs) n t, f)
      go false t f = absurd (spelled (sym f))

  -- its parts were read
  made_as : {A : Type 0} (make : A → Line) (o : Option A) → made make o ≡ l → (a : A) × (o ≡ some a) × (make a ≡ l)
  made_as make none e = absurd (spelled (sym e))
  made_as make (some a) e = (a, refl, e)

  point_as : (make : Point → Line) (c : ℕ) → 1 ≤ c → ((t : Point) → fields (make t) ≡ (c ∷ []) ∷ digit t.p ∷ digit t.q ∷ [])
      → letter (get_or fs 0 []) ≡ c → sized 3 fs (made make (read_point fs)) ≡ l → fields l ≡ fs
  point_as make c h k e f =
      let (n, g) = sized_as 3 (made make (read_point fs)) f in
      let (t, r, m) = made_as make (read_point fs) g in
      ap fields (sym m) ∙ k t ∙ point_read fs c t h e n r

  header_as : (limits : Limits) → letter (get_or fs 0 []) ≡ code "S" → sized 9 fs (made header (read_header limits fs)) ≡ l → fields l ≡ fs
  header_as limits e f =
      let (n, g) = sized_as 9 (made header (read_header limits fs)) f in
      let (h, r, m) = made_as header (read_header limits fs) g in
      ap fields (sym m) ∙ header_read limits fs h e n r

  letter_as : (x : Line) (c : ℕ) → 1 ≤ c → fields x ≡ (c ∷ []) ∷ [] → letter (get_or fs 0 []) ≡ c → sized 1 fs x ≡ l → fields l ≡ fs
  unfolding fields_from
  letter_as x c h k e f =
      let (n, m) = sized_as 1 x f in
      ap fields (sym m) ∙ k ∙ ap (λ (y : List ℕ). y ∷ []) (sym (letter_of (get_or fs 0 []) c h e)) ∙ fields_from_lem 0 1 fs n

  either : (c : ℕ) (x y : Line) → (letter (get_or fs 0 []) ≡ c → x ≡ l → fields l ≡ fs) → (y ≡ l → fields l ≡ fs)
      → cond (eqb (letter (get_or fs 0 [])) c) x y ≡ l → fields l ≡ fs
  either c x y f g e = go (eqb (letter (get_or fs 0 [])) c) refl e
    where
      go : (b : Bool) → eqb (letter (get_or fs 0 [])) c ≡ b → cond b x y ≡ l → fields l ≡ fs
      go true t h = f (eqb-true (letter (get_or fs 0 [])) c t) h
      go false t h = g h

  behind_read : (limits : Limits) → read_behind limits (letter (get_or fs 0 [])) fs ≡ l → fields l ≡ fs
  unfolding read_behind
  behind_read limits e =
      either (code "S") _ _ (header_as limits)
      (either (code "T") _ _ (point_as table (code "T") (omega arith) (λ x. refl))
      (either (code "L") _ _ (point_as load (code "L") (omega arith) (λ x. refl))
      (either (code "D") _ _ (letter_as double (code "D") (omega arith) refl)
      (either (code "A") _ _ (point_as add (code "A") (omega arith) (λ x. refl))
      (either (code "E") _ _ (letter_as end (code "E") (omega arith) refl)
      (λ f. absurd (spelled (sym f))))))))
      e

-- what was cut is joined again
push_join : (b c : ℕ) (f : List ℕ) (fs : List (List ℕ)) → join b (push c (f ∷ fs)) ≡ c ∷ join b (f ∷ fs)
unfolding join
push_join b c f [] = refl
push_join b c f (g ∷ gs) = refl

first_join : (b : ℕ) (f : List ℕ) (fs : List (List ℕ)) → join b ([] ∷ f ∷ fs) ≡ b ∷ join b (f ∷ fs)
unfolding join
first_join b f fs = refl

join_cut : (b : ℕ) (s : List ℕ) → join b (cut b s) ≡ s
unfolding cut
join_cut b [] = unfold join in refl
join_cut b (c ∷ s) = go (eqb c b) refl (cut_some b s) (join_cut b s)
  where
    go : (t : Bool) → eqb c b ≡ t → ((f : List ℕ) × (fs : List (List ℕ)) × (cut b s ≡ f ∷ fs)) → join b (cut b s) ≡ s
        → join b (cond t ([] ∷ cut b s) (push c (cut b s))) ≡ c ∷ s
    go true t (f, fs, e) r =
        ap (λ (x : List (List ℕ)). join b ([] ∷ x)) e ∙ first_join b f fs
        ∙ ap₂ (λ (x : ℕ) (y : List ℕ). x ∷ y) (sym (eqb-true c b t)) (sym (ap (join b) e) ∙ r)
    go false t (f, fs, e) r =
        ap (λ (x : List (List ℕ)). join b (push c x)) e ∙ push_join b c f fs
        ∙ ap (λ (y : List ℕ). c ∷ y) (sym (ap (join b) e) ∙ r)

-- a line that is not misspelled is the spelling of what was read
line_read : (limits : Limits) (s : List ℕ) → read_line limits s ≢ misspelled → join comma (fields (read_line limits s)) ≡ s
line_read limits s h =
    ap (join comma) (behind_read (cut comma s) (read_line limits s) h limits (unfold read_line in refl)) ∙ join_cut comma s

parts_read : (limits : Limits) (ps : List (List ℕ)) → Every (λ l. l ≢ misspelled) (read_lines limits ps) → spell (read_lines limits ps) ≡ join line_feed ps
unfolding read_lines spell join
parts_read limits [] e = refl
parts_read limits ([] ∷ []) e = refl
parts_read limits ((c ∷ s) ∷ []) (more h e) = absurd (h refl)
parts_read limits (s ∷ t ∷ ss) (more h e) =
    ap₂ (λ (x y : List ℕ). x ++ line_feed ∷ y) (line_read limits s h) (parts_read limits (t ∷ ss) e)

-- a sheet without a misspelled line is the spelling of its lines
pub read_spelled : (limits : Limits) (s : List ℕ) → Every (λ l. l ≢ misspelled) (lines limits s) → spell (lines limits s) ≡ s
unfolding lines
read_spelled limits s e = parts_read limits (cut line_feed s) e ∙ join_cut line_feed s

-- ── sheets ──────────────────────────────────────────────────────────────────────────────────

header_spelled : (h : Header) → Spelled (header h)
header_spelled h e = let z : ◌≡◌ {A = ℕ} 0 1 = cc in omega arith

table_spelled : (t : Point) → Spelled (table t)
table_spelled t e = let z : ◌≡◌ {A = ℕ} 0 1 = cc in omega arith

load_spelled : (t : Point) → Spelled (load t)
load_spelled t e = let z : ◌≡◌ {A = ℕ} 0 1 = cc in omega arith

double_spelled : Spelled double
double_spelled e = let z : ◌≡◌ {A = ℕ} 0 1 = cc in omega arith

add_spelled : (t : Point) → Spelled (add t)
add_spelled t e = let z : ◌≡◌ {A = ℕ} 0 1 = cc in omega arith

end_spelled : Every Spelled (end ∷ [])
end_spelled = more other empty
  where
    other : Spelled end
    other e = let z : ◌≡◌ {A = ℕ} 0 1 = cc in omega arith

moves_spelled : (ms : Moves) → Every Spelled (move_lines ms ++ (end ∷ []))
unfolding move_lines
moves_spelled stop = end_spelled
moves_spelled (doubled ms) = more double_spelled (moves_spelled ms)
moves_spelled (added t ms) = more (add_spelled t) (moves_spelled ms)

steps_spelled : (ts : List Point) (st : Steps) → Every Spelled (map table ts ++ (step_lines st ++ (end ∷ [])))
steps_spelled [] nothing = end_spelled
steps_spelled [] (loaded t ms) = more (load_spelled t) (moves_spelled ms)
steps_spelled (t ∷ ts) st = more (table_spelled t) (steps_spelled ts st)

pub sheet_spelled : (h : Header) (ts : List Point) (st : Steps) → Every Spelled (sheet_lines h ts st)
unfolding sheet_lines
sheet_spelled h ts st = more (header_spelled h) (steps_spelled ts st)

-- an accepted sheet is the spelling of its lines
pub accepted_spelled : (limits : Limits) (s : List ℕ) (k l : ℤ) → Accepted limits s k l → spell (lines limits s) ≡ s
accepted_spelled limits s k l a =
    let b : Sound limits s k l = (accepted_exactly limits s k l).0 a in
    read_spelled limits s
    (subst (Every Spelled) (sym b.laid) (sheet_spelled b.head (tables (plan b.head)) b.steps))
