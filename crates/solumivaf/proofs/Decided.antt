-- When what was read decides what is printed. Assumes nothing.
use Rattle.std.proofs.Common.{◌≡◌, ℕ, ◌+◌, ◌-◌, ◌<◌, ◌≤◌, List, ◌++◌, None, Some, IfSome, Option, length, take, drop, sym, ap, ◌∙◌, subst, append-nil, arith, ◌⊎◌, inl, inr, take_all, length-take-le, length-append}
use lib.Seq.{take-append-le, take-append_seam}
use borrow.Rule.Slice.PartMut.{put_mid}
use Rattle.std.proofs.lemmas.Bool.{cases_lt}
use Rattle.std.specs.Io.KnownBytes.{Consumes, IsAtEnd}
use Rattle.model.specs.Read.{program}
use Rattle.solumivaf.proofs.Moved.{front_after, reads_on}

-- as much as is due was read, or all that there was
decided : (before after : Option (List ℕ)) (got front : List ℕ) (due : ℕ) → Consumes before after got → (length got < due → IsAtEnd after)
    → 7 ≤ due → length got ≤ due → take 7 got ≡ take 7 front → ((text : List ℕ) → take 7 text ≡ take 7 front → program (take due text) ≡ program text)
    → IfSome before (λ text. program got ≡ program text)
decided None after got front due p end low high e by_index = tt
decided (Some x) None got front due p end low high e by_index = absurd p
decided (Some x) (Some y) got front due p end low high e by_index = go (cases_lt (length got) due)
  where
    go : (length got < due) ⊎ (due ≤ length got) → program got ≡ program x
    go (inl short) = ap program (sym (p ∙ ap (λ l. got ++ l) (end short) ∙ append-nil got))
    go (inr long) =
        let whole : length got ≡ due = omega (arith, long, high) in
        let cut : take due x ≡ got = ap (take due) p ∙ ap (λ n. take n (got ++ y)) (sym whole) ∙ take-append_seam got y in
        let head : take 7 x ≡ take 7 front = ap (take 7) p ∙ take-append-le 7 got y (omega (arith, low, long)) ∙ e in
        ap program (sym cut) ∙ by_index x head

-- the same of a buffer, whose first 7 bytes were read first
pub due_read : (before middle after : Option (List ℕ)) (buffer part rest : List ℕ) (front n due : ℕ) → length part ≡ 7 → 7 ≤ front → 7 ≤ due → length rest ≡ due - 7 → n ≤ length rest
    → Consumes before middle (take front part) → Consumes middle after (take n rest) → (n < length rest → IsAtEnd after)
    → (let first = part ++ drop 7 buffer in ((text : List ℕ) → take 7 text ≡ take 7 (take 7 first) → program (take due text) ≡ program text)
    → IfSome before (λ text. program (take (7 + n) (put_mid 7 (due - 7) first rest)) ≡ program text))
due_read before middle after buffer part rest front n due seven full low long within p q end by_index =
    let first = part ++ drop 7 buffer in
    let got = take (7 + n) (put_mid 7 (due - 7) first rest) in
    let head : take 7 first ≡ part = take-append-le 7 part (drop 7 buffer) (omega (arith, seven)) ∙ take_all 7 part (omega (arith, seven)) in
    let enough : 7 ≤ length first = omega (arith, seven, length-append part (drop 7 buffer)) in
    let parts : got ≡ take 7 first ++ take n rest = front_after 7 (due - 7) n first rest enough within in
    let count : length got ≡ 7 + n = ap length parts ∙ length-append (take 7 first) (take n rest)
    ∙ (let a = length-take-le 7 first enough in let b = length-take-le n rest within in omega (arith, a, b)) in
    let moved : Consumes before middle (take 7 first) = subst (Consumes before middle) (take_all front part (omega (arith, seven, full)) ∙ sym head) p in
    decided before after got (take 7 first) due (reads_on before middle after 7 (due - 7) n first rest enough within moved q) (λ short. end (omega (arith, short, count, long)))
    low (omega (arith, count, long, within, low)) (ap (take 7) parts ∙ take-append-le 7 (take 7 first) (take n rest) (let a = length-take-le 7 first enough in omega (arith, a))) by_index
