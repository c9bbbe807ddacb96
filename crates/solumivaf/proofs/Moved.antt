-- What reads and writes moved, put together. Assumes nothing.
use Rattle.std.proofs.Common.{◌≡◌, ℕ, ◌+◌, ◌-◌, ◌≤◌, List, ◌++◌, None, Some, length, take, drop, slice_range, sym, ap, ◌∙◌, subst, arith, le_refl, drop_at, length-take-le}
use Rattle.std.proofs.lemmas.Slice.{take-put_mid_below}
use Rattle.std.specs.Prelude.{Option}
use Rattle.std.specs.Io.KnownBytes.{Keeps, Consumes, Appends}
use Rattle.std.proofs.KnownBytes.{Consumes-trans, Appends-trans}
use borrow.Rule.Slice.PartMut.{put_mid, post_of}
use lib.Seq.{take-add, take-take, take-append-le}

pub kept_consumes : (a b c : Option (List ℕ)) (bs : List ℕ) → Keeps a b → Consumes b c bs → Consumes a c bs
kept_consumes None b c bs p q = tt
kept_consumes (Some x) None c bs p q = absurd p
kept_consumes (Some x) (Some y) None bs p q = absurd q
kept_consumes (Some x) (Some y) (Some z) bs p q = sym p ∙ q

pub kept_appends : (a b c : Option (List ℕ)) (bs : List ℕ) → Keeps a b → Appends b c bs → Appends a c bs
kept_appends None b c bs p q = tt
kept_appends (Some x) None c bs p q = absurd p
kept_appends (Some x) (Some y) None bs p q = absurd q
kept_appends (Some x) (Some y) (Some z) bs p q = q ∙ ap (λ l. l ++ bs) p

-- what stands at a place after a write there
range_of_put : (a k n : ℕ) (xs ys : List ℕ) → a ≤ length xs → n ≤ length ys → slice_range (put_mid a k xs ys) a (a + n) ≡ take n ys
range_of_put a k n xs ys within fits =
    let same : (a + n) - a ≡ n = omega arith in
    let after = post_of a k xs in
    ap (take ((a + n) - a)) (drop_at (take a xs) (ys ++ after) a (length-take-le a xs within)) ∙ ap (λ m. take m (ys ++ after)) same ∙ take-append-le n ys after fits

-- the front of a part, after n bytes were written behind its first a
pub front_after : (a k n : ℕ) (xs ys : List ℕ) → a ≤ length xs → n ≤ length ys → take (a + n) (put_mid a k xs ys) ≡ take a xs ++ take n ys
front_after a k n xs ys within fits =
    let new = put_mid a k xs ys in
    let same : (a + n) - a ≡ n = omega arith in
    take-add a n new ∙ ap (λ l. l ++ take n (drop a new)) (take-put_mid_below _ _ _ _ _ (le_refl _) within)
    ∙ ap (λ l. take a xs ++ l) (ap (λ m. take m (drop a new)) (sym same) ∙ range_of_put a k n xs ys within fits)

-- a read behind what was read before
pub reads_on : (a b c : Option (List ℕ)) (done room n : ℕ) (part new : List ℕ) → done ≤ length part → n ≤ length new
    → Consumes a b (take done part) → Consumes b c (take n new) → Consumes a c (take (done + n) (put_mid done room part new))
reads_on a b c done room n part new within fits p q = subst (Consumes a c) (sym (front_after done room n part new within fits)) (Consumes-trans a b c _ _ p q)

-- a write behind what was written before
pub writes_on : (a b c : Option (List ℕ)) (done put : ℕ) (text : List ℕ) → put ≤ length text - done
    → Appends a b (take done text) → Appends b c (take put (take (length text - done) (drop done text))) → Appends a c (take (done + put) text)
writes_on a b c done put text fits p q =
    let joined : take done text ++ take put (take (length text - done) (drop done text)) ≡ take (done + put) text =
    ap (λ l. take done text ++ l) (take-take put (length text - done) (drop done text) fits) ∙ sym (take-add done put text) in
    subst (Appends a c) joined (Appends-trans a b c _ _ p q)
