-- One step of the machine, at each focus.
use Rattle.std.proofs.Common.{nat_le, None, ◌≡◌, ℕ, ◌≤◌, ◌<◌, Bool, true, false, cond, List, [], ◌∷◌, ◌++◌, refl, ap, ◌∙◌, arith}
use Rattle.std.proofs.lemmas.Bool.{le-leb}
use Rattle.mt_tree.specs.declared.place.Place.{Place}
use Rattle.mt_grammar.specs.declared.terminal.Terminal.{Terminal}
use Rattle.mt_grammar.specs.Token.{Token, Tokens, terminal}
use Rattle.mt_grammar.specs.Nodes.{Nodes}
use Rattle.mt_grammar.specs.Stack.{Level, Focus}
use Rattle.mt_grammar.specs.Stack as f
use Rattle.mt_grammar.specs.Machine.{Next, at, awaits_at, binding, made_at, reduces, start_of, node_of, operand_by, statement_by, body_by, finished_by, first_by, word_by, shift_by, value_by, run}
use Rattle.mt_grammar.proofs.Precedence.{Stops, bound, no_reduce}

pub two_ways : {b c : Bool} (one two three : Next) → b ≡ false → c ≡ true → cond b one (cond c two three) ≡ two
two_ways {b} {c} one two three p q = ap (λ b. cond b one (cond c two three)) p ∙ ap (λ c. cond c two three) q

-- a token that goes on with an expression which the topmost level doesn't take
pub shifts : (y : Terminal) (t : Token) (ts : Tokens) (s : Place) (v : Bool) (x : Level) (fs : List Level) (out : Nodes) → reduces y v x ≡ false → awaits_at x ≤ made_at y → terminal t ≡ y
    → run (t ∷ ts) (at (f.Value s v) (x ∷ fs) out) ≡ run ts (shift_by t y s v x fs out)
shifts y t ts s v x fs out r a e =
    ap (λ y. run ts (value_by t y s v (x ∷ fs) out)) e
    ∙ ap (run ts) (two_ways (value_by t y (start_of x) false fs (out ++ node_of x ∷ [])) (shift_by t y s v x fs out) None r (le-leb _ _ a))

pub shift_on : (y : Terminal) (t : Token) (ts : Tokens) (s : Place) (v : Bool) (x : Level) (fs : List Level) (out : Nodes) → 0 < binding y → awaits_at x ≤ made_at y → terminal t ≡ y
    → run (t ∷ ts) (at (f.Value s v) (x ∷ fs) out) ≡ run ts (shift_by t y s v x fs out)
shift_on y t ts s v x fs out p a e = shifts y t ts s v x fs out (no_reduce y v x a p) a e

-- a level whose last operand ends here
pub reduce : (rest : Tokens) (l : ℕ) (s : Place) (v : Bool) (x : Level) (fs : List Level) (out : Nodes) → ((y : Terminal) → binding y ≤ l → reduces y v x ≡ true) → Stops l rest
    → run rest (at (f.Value s v) (x ∷ fs) out) ≡ run rest (at (f.Value (start_of x) false) fs (out ++ node_of x ∷ []))
reduce [] l s v x fs out h stops = refl
reduce (t ∷ ts) l s v x fs out h stops =
    let y = terminal t in
    ap (λ b. run ts (cond b (value_by t y (start_of x) false fs (out ++ node_of x ∷ [])) (cond (nat_le (awaits_at x) (made_at y)) (shift_by t y s v x fs out) None))) (h y stops)

pub Stops-less : (l m : ℕ) (rest : Tokens) → l ≤ m → Stops l rest → Stops m rest
Stops-less l m [] h stops = tt
Stops-less l m (t ∷ ts) h stops = omega arith

-- a token that ends every operand
pub closes : (y : Terminal) (t : Token) (ts : Tokens) → binding y ≡ 0 → terminal t ≡ y → Stops 0 (t ∷ ts)
closes y t ts h e = let b : binding (terminal t) ≡ 0 = ap binding e ∙ h in omega arith

pub Stops-any : (rest : Tokens) → Stops 10 rest
Stops-any [] = tt
Stops-any (t ∷ ts) = (bound (terminal t)).small

pub no_question : (rest : Tokens) → Stops 1 rest → Stops 0 rest
no_question [] h = tt
no_question (t ∷ ts) h = (bound (terminal t)).not_one h

pub operand_at : (y : Terminal) (t : Token) (ts : Tokens) (fs : List Level) (out : Nodes) → terminal t ≡ y → run (t ∷ ts) (at f.Operand fs out) ≡ run ts (operand_by t y fs out)
operand_at y t ts fs out e = ap (λ y. run ts (operand_by t y fs out)) e

pub first_at : (y : Terminal) (t : Token) (ts : Tokens) (fs : List Level) (out : Nodes) → terminal t ≡ y → run (t ∷ ts) (at f.First fs out) ≡ run ts (first_by t y fs out)
first_at y t ts fs out e = ap (λ y. run ts (first_by t y fs out)) e

pub word_at : (y : Terminal) (t : Token) (ts : Tokens) (x : Level) (fs : List Level) (out : Nodes) → terminal t ≡ y → run (t ∷ ts) (at f.Word (x ∷ fs) out) ≡ run ts (word_by t x y fs out)
word_at y t ts x fs out e = ap (λ y. run ts (word_by t x y fs out)) e

pub statement_at : (y : Terminal) (t : Token) (ts : Tokens) (fs : List Level) (out : Nodes) → terminal t ≡ y → run (t ∷ ts) (at f.Statement fs out) ≡ run ts (statement_by t y fs out)
statement_at y t ts fs out e = ap (λ y. run ts (statement_by t y fs out)) e

pub body_at : (y : Terminal) (t : Token) (ts : Tokens) (fs : List Level) (out : Nodes) → terminal t ≡ y → run (t ∷ ts) (at f.Body fs out) ≡ run ts (body_by t y fs out)
body_at y t ts fs out e = ap (λ y. run ts (body_by t y fs out)) e

pub finished_at : (y : Terminal) (t : Token) (ts : Tokens) (fs : List Level) (out : Nodes) → terminal t ≡ y → run (t ∷ ts) (at f.Finished fs out) ≡ run ts (finished_by t y fs out)
finished_at y t ts fs out e = ap (λ y. run ts (finished_by t y fs out)) e

-- a token that ends the expression at a level that is no operator
pub close_at : (y : Terminal) (t : Token) (ts : Tokens) (s : Place) (v : Bool) (x : Level) (fs : List Level) (out : Nodes) → reduces y v x ≡ false → awaits_at x ≤ 0 → terminal t ≡ y
    → run (t ∷ ts) (at (f.Value s v) (x ∷ fs) out) ≡ run ts (shift_by t y s v x fs out)
close_at y t ts s v x fs out r a e = shifts y t ts s v x fs out r (omega arith) e

pub if_true : {b : Bool} (one two : Next) → b ≡ true → cond b one two ≡ one
if_true one two e = ap (λ b. cond b one two) e

pub if_false : {b : Bool} (one two : Next) → b ≡ false → cond b one two ≡ two
if_false one two e = ap (λ b. cond b one two) e
