-- What services capture, in terms of the environment of the file's top.
use Rattle.std.specs.Prelude.{◌≡◌, ℕ, List, map, None}
use Rattle.mt_eval_meaning.specs.States.{kept_free}
use Rattle.mt_eval_meaning.specs.Names.{Environment}
use Rattle.mt_resolve.specs.declared.service.Service.{Service}
use Rattle.mt_syntax.specs.declared.program.Program.{Program}
use Rattle.mt_syntax.specs.declared.tree.Function.{Function}

-- a service captures the addresses that the environment gives to the names free in it
abbrev pub CapturesIn : Program → Environment → Service → List ℕ × Function → Type 0
CapturesIn p environment s f = s.captured ≡ map (λ b. b.address) (kept_free p.tildes None f.1 environment)
