-- What the calls of a plain host mean.
use Rattle.std.specs.Prelude.{ℕ, Bool, true, false, List, [], ◌++◌, codes, Result, Ok, Err, slice_get}
use Rattle.mt_builtins.specs.Builtins as builtin
use Rattle.mt_builtins.specs.Lines.{line}
use Rattle.mt_builtins.specs.Making.{answer, answer_for}
use Rattle.mt_builtins.specs.declared.made.Made.{Made}
use Rattle.mt_builtins.specs.declared.made.Made.TheVariants as made
use Rattle.mt_eval_meaning.specs.Host.{Answering, Meaning}
use Rattle.mt_ops.specs.declared.error.ErrorKind.{ErrorKind}
use Rattle.mt_ops.specs.declared.error.ErrorKind.TheVariants as error
use Rattle.mt_value.specs.declared.value.Native.{Native}
use Rattle.mt_value.specs.declared.value.Native.TheVariants as native
use Rattle.mt_value.specs.declared.value.Value.{Value}
use Rattle.mt_value.specs.declared.value.Value.TheVariants as value

pub record Plain : Type 0 where
  -- the lines that were logged so far, in bytes
  pub log : List ℕ
  -- whether a frame, client code or an element was asked for
  pub beyond : Bool

abbrev pub fresh : Plain
fresh = record { log = []; beyond = false }

-- a line with the text goes behind the log
abbrev pub with_line : Result (List ℕ) ErrorKind → Plain → Plain
with_line (Ok text) host = record host { log = host.log ++ line (codes "log") text }
with_line (Err e) host = host

abbrev pub undefined_or : Result (List ℕ) ErrorKind → Result Made ErrorKind
undefined_or (Ok text) = Ok (made.Value value.Undefined)
undefined_or (Err e) = Err e

-- the line is written, and the answer is undefined
abbrev pub logged : Result (List ℕ) ErrorKind → Answering Plain
logged text = λ host. answer (undefined_or text) (with_line text host)

-- `log(v)`, and the builtins of both tiers; those of a client are no functions here
unfoldable pub called : Native → List Value → Answering Plain
called native.Log arguments = logged (builtin.text_of (codes "log") (slice_get arguments 0))
called which arguments = answer (builtin.native which arguments)

-- the methods of builtins of both tiers
unfoldable pub invoked : Value → List ℕ → List Value → Answering Plain
invoked base key arguments = λ host store budget. answer_for (builtin.method_cost base key arguments store) (builtin.method base key arguments store) host store budget

abbrev pub past : Plain → Plain
past host = record host { beyond = true }

-- it makes no frame, no client code and no element: a call throws, and the host keeps that it was asked for one
abbrev pub unmade : Answering Plain
unmade = λ host. answer (Err error.NotFunction) (past host)

-- nothing that is the host's own has a property, and there are no services, no client code and no HTML
abbrev pub plain : Meaning Plain
plain = record {
  native = called;
  method = invoked;
  get = λ base key. answer (Err (error.NoSuchProperty key));
  set = λ base key v. answer (Err (error.NoSuchProperty key));
  frame = λ service arguments. unmade;
  staged = λ tilde values. unmade;
  element = λ tag attributes children. unmade;
}
