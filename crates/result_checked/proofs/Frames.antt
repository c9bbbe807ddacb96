-- The frames of a result in their three parts. Assumes nothing.
use Prim.Native.Nat.{ℕ}
use mathlib.Core.Path.{◌≡◌, refl, sym, ap, ◌∙◌}
use mathlib.Core.List.{List, [], ◌∷◌, ◌++◌}
use Rattle.model.specs.Read.{Frame, tile_frames, list_frames, result_frames}
use Rattle.cursors.specs.declared.Cursor.{Cursor}
use Rattle.std.specs.Prelude.{Ok, Err}
use Rattle.model.specs.declared.Refusal.{Refusal}
use Rattle.cursors.specs.Steps.{Step, step_of}
use Rattle.frames_read.specs.Follow.{onward, follow}
use Rattle.frames_read.proofs.Rows.{follow_append}

-- the outcome's frame
abbrev pub outcome_frame : Frame
outcome_frame = record { kind = 4; i = 0; j = 0 }

module _ (t N : ℕ) (text : List ℕ) where
  pub follow_one : (f : Frame) (c : Cursor) → follow t text (f ∷ []) c ≡ step_of t text f c
  unfolding follow
  follow_one f c = go (step_of t text f c)
    where
      go : (s : Step) → onward (follow t text []) s ≡ s
      go (Ok d) = refl
      go (Err why) = refl

  in_parts : (c : Cursor) → follow t text (result_frames N) c ≡ onward (step_of t text outcome_frame) (onward (follow t text (list_frames N)) (follow t text (tile_frames N) c))
  unfolding result_frames
  in_parts c =
      follow_append t text (tile_frames N ++ list_frames N) (outcome_frame ∷ []) c
      ∙ last (follow t text (tile_frames N ++ list_frames N) c)
      ∙ ap (onward (step_of t text outcome_frame)) (follow_append t text (tile_frames N) (list_frames N) c)
    where
      last : (s : Step) → onward (follow t text (outcome_frame ∷ [])) s ≡ onward (step_of t text outcome_frame) s
      last (Ok d) = follow_one outcome_frame d
      last (Err why) = refl

  module _ (s : Cursor) where
    pub tiles_stop : (why : Refusal) → follow t text (tile_frames N) s ≡ Err why → Err why ≡ follow t text (result_frames N) s
    tiles_stop why e = sym (in_parts s ∙ ap (λ (z : Step). onward (step_of t text outcome_frame) (onward (follow t text (list_frames N)) z)) e)

    module _ (c : Cursor) (a : follow t text (tile_frames N) s ≡ Ok c) where
      pub lists_stop : (why : Refusal) → follow t text (list_frames N) c ≡ Err why → Err why ≡ follow t text (result_frames N) s
      lists_stop why e =
          sym (in_parts s ∙ ap (λ (z : Step). onward (step_of t text outcome_frame) (onward (follow t text (list_frames N)) z)) a ∙ ap (onward (step_of t text outcome_frame)) e)

      pub to_outcome : (d : Cursor) → follow t text (list_frames N) c ≡ Ok d → step_of t text outcome_frame d ≡ follow t text (result_frames N) s
      to_outcome d e =
          sym (in_parts s ∙ ap (λ (z : Step). onward (step_of t text outcome_frame) (onward (follow t text (list_frames N)) z)) a ∙ ap (onward (step_of t text outcome_frame)) e)
