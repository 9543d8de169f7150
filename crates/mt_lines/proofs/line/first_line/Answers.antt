use Rattle.std.proofs.Common.{◌≡◌, ◌∙◌, ◌<◌, List, ℕ, [], sym, ap, arith, take, drop, length, subst₂}
use Rattle.std.proofs.lemmas.Bool.{eqb-false}
use Rattle.std.proofs.lemmas.List.{nil_from_length}
use Rattle.mt_lines.specs.Lines.{without_return, IsFirstLine}
use Rattle.mt_lines.specs.Words.{before, from}
use Rattle.mt_lines.proofs.Lines.{first-line-ended, first-line-last}
use Rattle.mt_lines.proofs.line.first_line.Goals as goal

pub returns-in-Some : goal.returns-in-Some
returns-in-Some c =
    let text : List ℕ = c.args.text.now in
    let rest = ap (λ n. drop n text) (sym c.place_of.ensures.exact) ∙ sym c.split_at.ensures.back ∙ c.in-Some.ensures.cases.0 in
    let line = c.without_return.ensures ∙ ap without_return (c.split_at.ensures.front ∙ ap (λ n. take n text) c.place_of.ensures.exact) in
    first-line-ended text c.in-Some._line_feed.now c.in-Some.after.now c.without_return.result.now rest line

pub returns-in-None : goal.returns-in-None
returns-in-None c =
    let text : List ℕ = c.args.text.now in
    let front : c.split_at.result.0.now ≡ before 10 text = c.split_at.ensures.front ∙ ap (λ n. take n text) c.place_of.ensures.exact in
    let back : c.split_at.result.1.now ≡ from 10 text = c.split_at.ensures.back ∙ ap (λ n. drop n text) c.place_of.ensures.exact in
    let none : from 10 text ≡ [] = sym back ∙ nil_from_length c.split_at.result.1.now c.in-None.ensures.cases in
    let filled : length text ≡ 0 → ⊥ = eqb-false _ _ (sym c.if-is_empty.ensures) in
    let some : 0 < length text = omega (arith, filled) in
    let P : List ℕ → List ℕ → Type 0 = λ line after. IsFirstLine text line after in
    subst₂ P (sym front) (sym back) (first-line-last text some none)
