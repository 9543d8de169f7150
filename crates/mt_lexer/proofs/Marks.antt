-- One token more.
use Rattle.std.proofs.Common.{◌≡◌, ℕ, zero, suc, ◌<◌, List, [], ◌∷◌, ◌++◌, length, get_or, refl, ap, arith}
use Rattle.mt_lexer.specs.declared.token.Token.{Token}
use Rattle.mt_lexer.specs.Character.{text_of}
use Rattle.mt_lexer.specs.Tokens.{Mark, marks_of, AllCut}
use Rattle.mt_lexer.specs.Verdict.{start_of}

pub length-marks_of : (ts : List Token) → length (marks_of ts) ≡ length ts
length-marks_of [] = refl
length-marks_of (t ∷ ts) = let h = length-marks_of ts in omega arith

pub marks_of-push : (ts : List Token) (t : Token) → marks_of (ts ++ t ∷ []) ≡ marks_of ts ++ record { kind = t.kind; span = t.span } ∷ []
marks_of-push [] t = refl
marks_of-push (x ∷ ts) t = ap (λ (ms : List Mark). record { kind = x.kind; span = x.span } ∷ ms) (marks_of-push ts t)

pub AllCut-push : (source : List ℕ) (ts : List Token) (t : Token) → AllCut source ts → t.text.now ≡ text_of source t.span → AllCut source (ts ++ t ∷ [])
AllCut-push source [] t h g = (g, tt)
AllCut-push source (x ∷ ts) t h g = (h.0, AllCut-push source ts t h.1 g)

pub start_of-marks_of : (ts : List Token) (n : ℕ) (t : Token) → n < length ts → t ≡ get_or ts n t → t.span.start ≡ start_of n (marks_of ts)
start_of-marks_of [] n t h e = absurd (omega arith)
start_of-marks_of (x ∷ ts) zero t h e = ap (λ (t : Token). t.span.start) e
start_of-marks_of (x ∷ ts) (suc n) t h e = start_of-marks_of ts n t (omega arith) e
