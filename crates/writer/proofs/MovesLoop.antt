-- One turn of the loop over the places below the top, over plain values.
use mathlib.Core.Path.{◌≡◌, ap, ◌∙◌}
use mathlib.Core.List.{List, [], ◌∷◌, ◌++◌}
use Prim.Native.Nat.{ℕ, suc, ◌-◌, ◌≤◌, ◌<◌}
use native.Mathlib.Omega.{arith}
use Rattle.sheet.specs.declared.Plan.{Plan}
use Rattle.sheet.specs.Spelling.{line_feed}
use Rattle.written.specs.Written.{place_steps}
use Rattle.writer.specs.Body.Parts.{Put, Room, steps_bytes, column_at}
use Rattle.writer.proofs.Puts.{Progress, advance, finished, progress_same, progress_room, room_first}
use Rattle.writer.proofs.StepBytes.{moves_bytes, moves_none, moves_more}

-- the places from i up have been put, and those below i are left
abbrev pub Moving : Plan → List ℕ → List ℕ → ℕ → List ℕ → List ℕ → ℕ → ℕ → ℕ → Type 0
Moving plan p q top out₀ out at next i = (i ≤ top) × Progress out₀ out at next (moves_bytes plan p q top) (moves_bytes plan p q i)

module _ (plan : Plan) (p q : List ℕ) (top : ℕ) (out₀ : List ℕ) (at : ℕ) where
  module _ {out : List ℕ} {next i : ℕ} (s : Moving plan p q top out₀ out at next i) where
    -- at place 0 all is put
    pub move_stop : i ≤ 0 → Put out₀ out at next (moves_bytes plan p q top)
    move_stop h =
        let e : i ≡ 0 = omega arith in
        finished (progress_same (ap (moves_bytes plan p q) e ∙ moves_none plan p q) s.1)

    module _ (room : Room out₀ at (moves_bytes plan p q top)) (going : 0 < i) where
      lower : Progress out₀ out at next (moves_bytes plan p q top) ((68 ∷ line_feed ∷ []) ++ (steps_bytes 65 (place_steps plan (column_at p q (i - 1))) ++ moves_bytes plan p q (i - 1)))
      lower =
          let e : i ≡ suc (i - 1) = omega arith in
          progress_same (ap (moves_bytes plan p q) e ∙ moves_more plan p q (i - 1)) s.1

      -- a D line, and then the steps of the place
      pub double_room : Room out next (68 ∷ line_feed ∷ [])
      double_room = room_first _ (progress_room room lower)

      module _ {out1 : List ℕ} {next1 : ℕ} (d : Put out out1 next next1 (68 ∷ line_feed ∷ [])) where
        begins : Progress out₀ out1 at next1 (moves_bytes plan p q top) (steps_bytes 65 (place_steps plan (column_at p q (i - 1))) ++ moves_bytes plan p q (i - 1))
        begins = advance (steps_bytes 65 (place_steps plan (column_at p q (i - 1))) ++ moves_bytes plan p q (i - 1)) d lower

        pub steps_room : Room out1 next1 (steps_bytes 65 (place_steps plan (column_at p q (i - 1))))
        steps_room = room_first (moves_bytes plan p q (i - 1)) (progress_room room begins)

        pub move_turn : {out2 : List ℕ} {next2 : ℕ} → Put out1 out2 next1 next2 (steps_bytes 65 (place_steps plan (column_at p q (i - 1)))) → Moving plan p q top out₀ out2 at next2 (i - 1)
        move_turn r = (omega (arith, s.0), advance (moves_bytes plan p q (i - 1)) r begins)
