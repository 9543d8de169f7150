-- What a step of the lexer does to its tokens and modes.
use Rattle.std.specs.Prelude.{◌≡◌, ℕ, Result, Ok, Err, List, [], ◌∷◌}
use Rattle.std.specs.declared.alloc.AllocError.{AllocError}
use Rattle.mt_lexer.specs.declared.mode.Mode.{Mode}
use Rattle.mt_lexer.specs.declared.mode.Before.{Before}
use Rattle.mt_lexer.specs.declared.lexer.Flow.{Flow}
use Rattle.mt_lexer.specs.declared.lexer.Flow.TheVariants as flow
use Rattle.mt_lexer.specs.declared.lexer.Lexer.{Lexer}
use Rattle.mt_lexer.specs.Tokens.{Mark, with_marks}
use Rattle.mt_lexer.specs.Machine.{Next, go, emit, stop, done}

-- the tokens that a step emits, in order, and then how it goes on
abbrev pub then : List Mark → Next → Next
then [] n = n
then (t ∷ ts) n = emit t.kind t.span (then ts n)

abbrev pub flow_of : Flow → List Mode → Before → Next
flow_of (flow.Continue part) ms b = go ms b part
flow_of (flow.Refuse fault at) ms b = stop fault at
flow_of flow.End ms b = done

-- the step emitted these tokens, which stand at the end now, and goes on with these modes
abbrev pub Steps : Result Flow AllocError → Next → Lexer → Lexer → Type 0
Steps (Err e) n old new = Unit {0}
Steps (Ok r) n old new = (ts : List Mark) × (new.tokens ≡ with_marks old.tokens ts) × (n ≡ then ts (flow_of r new.modes new.before))

-- a step that touches nothing goes on so
abbrev pub Flows : Flow → (List ℕ → Before → List Mode → Next) → Type 0
Flows r n = (source : List ℕ) (b : Before) (ms : List Mode) → n source b ms ≡ flow_of r ms b
