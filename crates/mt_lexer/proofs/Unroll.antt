-- One character of the machine at a time, where the end of the source counts as one.
use Rattle.std.proofs.Common.{◌≡◌, ℕ, Bool, true, false, List, [], ◌∷◌, refl, ap, ◌∙◌}
use Rattle.mt_tree.specs.declared.place.Span.{Span}
use Rattle.mt_lexer.specs.declared.character.SourceChar.{SourceChar}
use Rattle.mt_lexer.specs.declared.character.Class.{Class}
use Rattle.mt_tree.specs.declared.kind.Kind.{Kind}
use Rattle.mt_lexer.specs.declared.mode.Fault.{Fault}
use Rattle.mt_lexer.specs.declared.mode.Mode.{Mode}
use Rattle.mt_lexer.specs.declared.mode.Before.{Before}
use Rattle.mt_lexer.specs.declared.part.Part.{Part}
use Rattle.mt_lexer.specs.declared.part.Part.TheVariants as p
use Rattle.mt_lexer.specs.Character.{Chars, class, first, second, place, between}
use Rattle.mt_lexer.specs.Spelling.{Outcome, token, refused, Run, run_end, run_more}
use Rattle.mt_lexer.specs.Machine.{Next, go, emit, stop, step_by, fresh_by, ends, follows, end_mark, lexed}

module _ (source : List ℕ) where
  -- the next character, or what stands for one at the end
  abbrev pub head : Chars → SourceChar
  head [] = end_mark source
  head (x ∷ cs) = x

  -- how a step at this character goes on
  abbrev pub next : Chars → Next → Outcome
  next [] n = ends n
  next (x ∷ cs) n = follows (lexed source cs) n

  pub unroll : (cs : Chars) (ms : List Mode) (b : Before) (w : Part) → lexed source cs ms b w ≡ next cs (step_by source (head cs) w (first cs) b ms)
  unroll [] ms b w = refl
  unroll (x ∷ cs) ms b w = refl

  pub head-place : (cs : Chars) → (head cs).span.start ≡ place source cs
  head-place [] = refl
  head-place (x ∷ cs) = refl

  pub next-emit : (cs : Chars) (kind : Kind) (span : Span) (n : Next) → next cs (emit kind span n) ≡ token kind span (next cs n)
  next-emit [] kind span n = refl
  next-emit (x ∷ cs) kind span n = refl

  pub next-stop : (cs : Chars) (f : Fault) (at : ℕ) → next cs (stop f at) ≡ refused f at
  next-stop [] f at = refl
  next-stop (x ∷ cs) f at = refl

  pub next-fresh : (cs : Chars) (ms : List Mode) (b : Before) → next cs (fresh_by source (head cs) (first cs) b ms) ≡ lexed source cs ms b p.Fresh
  next-fresh [] ms b = refl
  next-fresh (x ∷ cs) ms b = refl

  -- a part ends before the next character, which is then read afresh
  pub afresh : (cs : Chars) (ms ns : List Mode) (b d : Before) (w : Part) (kind : Kind) (s : ℕ)
      → step_by source (head cs) w (first cs) b ms ≡ emit kind (between s (head cs).span.start) (fresh_by source (head cs) (first cs) d ns)
      → lexed source cs ms b w ≡ token kind (between s (place source cs)) (lexed source cs ns d p.Fresh)
  afresh [] ms ns b d w kind s h = ap ends h
  afresh (x ∷ cs) ms ns b d w kind s h = ap (follows (lexed source cs)) h

  -- the same with an end that is known before
  pub afresh_at : (cs : Chars) (ms ns : List Mode) (b d : Before) (w : Part) (kind : Kind) (span : Span)
      → step_by source (head cs) w (first cs) b ms ≡ emit kind span (fresh_by source (head cs) (first cs) d ns) → lexed source cs ms b w ≡ token kind span (lexed source cs ns d p.Fresh)
  afresh_at [] ms ns b d w kind span h = ap ends h
  afresh_at (x ∷ cs) ms ns b d w kind span h = ap (follows (lexed source cs)) h

  -- nothing is emitted, and the next character is read afresh
  pub again : (cs : Chars) (ms : List Mode) (b : Before) (w v : Part) → step_by source (head cs) w (first cs) b ms ≡ step_by source (head cs) v (first cs) b ms → lexed source cs ms b w ≡ lexed source cs ms b v
  again [] ms b w v h = ap ends h
  again (x ∷ cs) ms b w v h = ap (follows (lexed source cs)) h

  pub stopped : (cs : Chars) (ms : List Mode) (b : Before) (w : Part) (f : Fault) (at : ℕ) → step_by source (head cs) w (first cs) b ms ≡ stop f at → lexed source cs ms b w ≡ refused f at
  stopped [] ms b w f at h = ap ends h
  stopped (x ∷ cs) ms b w f at h = ap (follows (lexed source cs)) h

  -- a character of this class
  pub at_class : (y : Class) (x : SourceChar) (cs : Chars) (ms : List Mode) (b : Before) (w : Part) → class x ≡ y → lexed source (x ∷ cs) ms b w ≡ follows (lexed source cs) (step_by source x w y b ms)
  at_class y x cs ms b w q = ap (λ (y : Class). follows (lexed source cs) (step_by source x w y b ms)) q

  -- over a run, where the part stays
  pub run : {passes : Class → Class → Bool} {cs rest : Chars} → Run passes cs rest → (ms : List Mode) (b : Before) (w : Part)
      → ((x : SourceChar) (y z : Class) → passes y z ≡ true → step_by source x w y b ms ≡ go ms b w) → lexed source cs ms b w ≡ lexed source rest ms b w
  run (run_end h) ms b w g = refl
  run (run_more {x} {cs} h d) ms b w g = ap (follows (lexed source cs)) (g x (class x) (first cs) h) ∙ run d ms b w g

pub run_stops : {passes : Class → Class → Bool} {cs rest : Chars} → Run passes cs rest → passes (first rest) (second rest) ≡ false
run_stops (run_end h) = h
run_stops (run_more h d) = run_stops d
