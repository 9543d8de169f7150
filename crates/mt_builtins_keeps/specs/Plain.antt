-- What is a plain host's own: nothing.
use Rattle.std.specs.Prelude.{ℕ, true, false, Bool, []}
use Rattle.mt_eval_keeps.specs.Growth.{Thing}
use Rattle.mt_eval_keeps.specs.Growth as thing
use Rattle.mt_eval_keeps.specs.Kept.{Tests}
use Rattle.mt_builtins.specs.Plain.{Plain}

abbrev pub own : Plain → Thing → Bool
own h thing.itself = true
own h _ = false

-- No code that it runs has tildes or elements. The functions of the code have these numbers.
abbrev pub tests : (ℕ → Bool) → Tests Plain
tests numbers = record { own = own; addresses = λ h. []; element = λ tag names children. false; tilde = λ id n. false; function = numbers }
