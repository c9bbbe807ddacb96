-- Two blocks of one slice that share no number. Assumes nothing.
use mathlib.Core.Path.{◌≡◌, ◌∙◌}
use mathlib.Core.List.{List}
use Prim.Native.Nat.{ℕ, ◌+◌, ◌≤◌}
use lib.ListN.{length}
use lib.Ieee.{Float, nan}
use Rattle.model.specs.Lists.{part, with_part}
use Rattle.laws.specs.Apart.{Apart}
use Rattle.laws.proofs.Parts.{Fits, length_put, part_put, put_put, part_other, put_comm}
use Rattle.column_laws.specs.Steps.{with_two}

module _ (n u d : ℕ) (m : List Float) (apart : Apart n u d) (ru : u + n ≤ length m) (rd : d + n ≤ length m) where
  module _ (x y : List Float) (hx : length x ≡ n) (hy : length y ≡ n) where
    fits_lower : Fits n d m y
    fits_lower = record { whole = hy; room = rd }

    fits_upper : Fits n u (with_part d n y m) x
    fits_upper = record { whole = hx; room = rw (length_put n nan d m y fits_lower) ru }

    pub length_two : length (with_two n u d x y m) ≡ length m
    unfolding with_two
    length_two = length_put n nan u (with_part d n y m) x fits_upper ∙ length_put n nan d m y fits_lower

    pub upper_two : part u n (with_two n u d x y m) ≡ x
    unfolding with_two
    upper_two = part_put n nan u (with_part d n y m) x fits_upper

    pub lower_two : part d n (with_two n u d x y m) ≡ y
    unfolding with_two
    lower_two =
        part_other n nan u d (with_part d n y m) x fits_upper (rw (length_put n nan d m y fits_lower) rd) apart ∙ part_put n nan d m y fits_lower

    pub put_upper : (z : List Float) → with_part u n z (with_two n u d x y m) ≡ with_two n u d z y m
    unfolding with_two
    put_upper z = put_put n nan u (with_part d n y m) x fits_upper z

    pub put_lower : (z : List Float) → length z ≡ n → with_part d n z (with_two n u d x y m) ≡ with_two n u d x z m
    unfolding with_two
    put_lower z hz =
        put_comm n nan u d (with_part d n y m) x z fits_upper (record { whole = hz; room = rw (length_put n nan d m y fits_lower) rd }) apart
        ∙ rw (put_put n nan d m y fits_lower z)
