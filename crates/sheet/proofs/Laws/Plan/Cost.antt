-- The table additions and doublings of a plan are those of its T lines. Assumes nothing.
use Rattle.std.specs.Prelude.{◌≡◌, Bool, true, false, cond, List, [], ◌∷◌, ◌++◌, map, leb, pos}
use Rattle.std.proofs.Math.Path.{refl}
use Rattle.std.proofs.Common.{ap, arith}
use Prim.Native.Nat.{ℕ, zero, suc, ◌+◌, ◌≤◌}
use borrow.Author.Tests.{ne_eqb, le-leb, lt-leb}
use Rattle.sheet.specs.declared.Plan.{Plan}
use Rattle.sheet.specs.declared.Plan.TheVariants.{J, I}
use Rattle.sheet.specs.Plan.{Point, point, stored, odds, multiples, tables, table_additions, doubled, table_doublings}
use Rattle.sheet.specs.Line.{Line, header, table, load, double, add, end, misspelled}
use Rattle.sheet.specs.Questions.{is_double, additions, doublings}

-- the counts of lines that follow one another
pub additions_append : (xs ys : List Line) → additions (xs ++ ys) ≡ additions xs + additions ys
unfolding additions
additions_append [] ys = omega arith
additions_append (table t ∷ xs) ys = omega (arith, additions_append xs ys)
additions_append (add t ∷ xs) ys = omega (arith, additions_append xs ys)
additions_append (header h ∷ xs) ys = additions_append xs ys
additions_append (load t ∷ xs) ys = additions_append xs ys
additions_append (double ∷ xs) ys = additions_append xs ys
additions_append (end ∷ xs) ys = additions_append xs ys
additions_append (misspelled ∷ xs) ys = additions_append xs ys

pub doublings_append : (xs ys : List Line) → doublings (xs ++ ys) ≡ doublings xs + doublings ys
unfolding doublings
doublings_append [] ys = omega arith
doublings_append (table t ∷ xs) ys = omega (arith, doublings_append xs ys)
doublings_append (double ∷ xs) ys = omega (arith, doublings_append xs ys)
doublings_append (header h ∷ xs) ys = doublings_append xs ys
doublings_append (load t ∷ xs) ys = doublings_append xs ys
doublings_append (add t ∷ xs) ys = doublings_append xs ys
doublings_append (end ∷ xs) ys = doublings_append xs ys
doublings_append (misspelled ∷ xs) ys = doublings_append xs ys

map_append : {A B : Type 0} (f : A → B) (xs ys : List A) → map f (xs ++ ys) ≡ map f xs ++ map f ys
map_append f [] ys = refl
map_append f (x ∷ xs) ys = ap (λ (l : List _). f x ∷ l) (map_append f xs ys)

-- the multiples of one point, of which only twice the point is a doubling
module _ (f : ℕ → Point) (two : is_double (f 2) ≡ true) (odd : (d : ℕ) → 3 ≤ d → is_double (f d) ≡ false) where
  odds_additions : (d n : ℕ) → 3 ≤ d → additions (map table (map f (odds d n))) ≡ n
  unfolding additions odds
  odds_additions d zero h = refl
  odds_additions d (suc n) h = rw (odd d h) (omega (arith, odds_additions (2 + d) n (omega arith)))

  odds_doublings : (d n : ℕ) → 3 ≤ d → doublings (map table (map f (odds d n))) ≡ 0
  unfolding doublings odds
  odds_doublings d zero h = refl
  odds_doublings d (suc n) h = rw (odd d h) (omega (arith, odds_doublings (2 + d) n (omega arith)))

  multiples_additions : (n : ℕ) → additions (map table (map f (multiples n))) ≡ n
  unfolding additions
  multiples_additions zero = refl
  multiples_additions (suc n) = rw two (omega (arith, odds_additions 3 (suc n) (omega arith)))

  window_additions : (m : ℕ) → additions (map table (map f (multiples (stored m)))) ≡ stored m
  window_additions m = multiples_additions (stored m)

  window_doublings : (m : ℕ) → doublings (map table (map f (multiples (stored m)))) ≡ doubled m
  unfolding doublings
  window_doublings m = go (stored m) refl
    where
      go : (n : ℕ) → stored m ≡ n → doublings (map table (map f (multiples n))) ≡ doubled m
      go zero e = rw (lt-leb 3 m (omega arith))
      go (suc n) e = rw (two, le-leb 3 m (omega arith)) (omega (arith, odds_doublings 3 (suc n) (omega arith)))

for_p : ℕ → Point
for_p n = point (pos n) (pos 0)

for_q : ℕ → Point
for_q n = point (pos 0) (pos n)

odd_p : (d : ℕ) → 3 ≤ d → is_double (for_p d) ≡ false
unfolding for_p
odd_p d h = rw (ne_eqb d 2 (omega arith), ne_eqb d 0 (omega arith))

odd_q : (d : ℕ) → 3 ≤ d → is_double (for_q d) ≡ false
unfolding for_q
odd_q d h = rw (ne_eqb d 2 (omega arith))

-- twice a point is made once at most
pub doubled_once : (m : ℕ) → doubled m ≤ 1
doubled_once m = go (leb 3 m)
  where
    go : (b : Bool) → cond b 1 0 ≤ 1
    go true = omega arith
    go false = omega arith

-- the additions of the plan's T lines
pub tables_additions : (p : Plan) → additions (map table (tables p)) ≡ table_additions p
unfolding for_p for_q
tables_additions J = unfold additions in refl
tables_additions (I m1 m2) =
    rw (
      map_append table (map for_p (multiples (stored m1))) (map for_q (multiples (stored m2))),
      additions_append (map table (map for_p (multiples (stored m1)))) (map table (map for_q (multiples (stored m2)))),
      window_additions for_p refl odd_p m1,
      window_additions for_q refl odd_q m2,
    )

-- the doublings of the plan's T lines
pub tables_doublings : (p : Plan) → doublings (map table (tables p)) ≡ table_doublings p
unfolding for_p for_q
tables_doublings J = unfold doublings in refl
tables_doublings (I m1 m2) =
    rw (
      map_append table (map for_p (multiples (stored m1))) (map for_q (multiples (stored m2))),
      doublings_append (map table (map for_p (multiples (stored m1)))) (map table (map for_q (multiples (stored m2)))),
      window_doublings for_p refl odd_p m1,
      window_doublings for_q refl odd_q m2,
    )
