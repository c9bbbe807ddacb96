-- Laws of what the lists' lines of a checked text hold. Assumes nothing.
use Prim.Native.Nat.{ℕ, zero, suc, ◌+◌, ◌*◌, ◌≤◌, ◌<◌}
use mathlib.Core.Path.{◌≡◌, ap, ◌∙◌, subst}
use mathlib.Core.Bool.{Bool, true, false, cond}
use mathlib.Core.List.{List, map}
use native.Mathlib.Nat.{mul-le-mul_right}
use native.Mathlib.Omega.{arith}
use lib.Dec.{leb}
use lib.ListN.{length, replicate, length-append, length-replicate}
use borrow.Author.Tests.{le-leb, lt-leb}
use Rattle.laws.proofs.Tests.{Order, less, equal, more, order}
use Rattle.laws.proofs.Texts.{length_entries}
use Rattle.model.specs.Lists.{below, joined}
use Rattle.model.specs.Read.{entries_in}
use Rattle.numbers_read.specs.Decoded.{line_at}
use Rattle.laws.proofs.Runs.{length_below, joined_last, length_joined_below}
use Rattle.entries_read.specs.Entries.{list_size, ListLine, ListLines, above, list_from, row_from}

module _ (t a : ℕ) (text : List ℕ) (i : ℕ) where
  pub list_above : (j : ℕ) → i < j → replicate t 0 ≡ list_from t a text i j
  unfolding list_from
  list_above j h = rw (lt-leb j i h)

  pub list_held : (j : ℕ) → j ≤ i → entries_in t (line_at (a + j * list_size t) (list_size t) text) ≡ list_from t a text i j
  unfolding list_from
  list_held j h = rw (le-leb j i h)

  pub length_list : (j : ℕ) → length (list_from t a text i j) ≡ t
  unfolding list_from
  length_list j = go (leb j i)
    where
      go : (b : Bool) → length (cond b (entries_in t (line_at (a + j * list_size t) (list_size t) text)) (replicate t 0)) ≡ t
      go true = length_entries t (line_at (a + j * list_size t) (list_size t) text)
      go false = length-replicate t 0

  pub length_row : (N : ℕ) → length (row_from N t a text i) ≡ N * t
  unfolding row_from
  length_row N = length_joined_below (list_from t a text i) t N (λ j h. length_list j)

-- row i has i + 1 lists up to the diagonal
pub above_next : (i : ℕ) → above (suc i) ≡ above i + suc i
unfolding above
above_next i =
    ap length (joined_last (λ r. below (suc r)) i)
    ∙ length-append (joined (map (λ r. below (suc r)) (below i))) (below (suc i))
    ∙ ap (λ (n : ℕ). length (joined (map (λ r. below (suc r)) (below i))) + n) (length_below (suc i))

pub above_grows : (i n : ℕ) → i < n → above i + suc i ≤ above n
above_grows i zero h = absurd (omega arith)
above_grows i (suc n) h = go (above_grows i n) (order i n)
  where
    go : (i < n → above i + suc i ≤ above n) → Order i n → above i + suc i ≤ above (suc n)
    go ih (less b) = omega (arith, ih b, above_next n)
    go ih (equal e) = omega (arith, above_next n, ap above e)
    go ih (more b) = absurd (omega arith)

-- lines in a row that start k lines further on
pub further : (t n a k m : ℕ) (text : List ℕ) → ListLines t n a text → k + m ≤ n → ListLines t m (a + k * list_size t) text
further t n a k m text l h = record {
  room = omega (arith, l.room, mul-le-mul_right (list_size t) h);
  each = λ q b.
      let e : a + (k + q) * list_size t ≡ a + k * list_size t + q * list_size t = omega arith in
      subst (λ (p : ℕ). ListLine t (line_at p (list_size t) text)) e (l.each (k + q) (omega arith));
}
