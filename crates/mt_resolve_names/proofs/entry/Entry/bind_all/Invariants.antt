use Rattle.std.proofs.Common.{◌≡◌, length, map}
use Rattle.mt_eval_meaning.specs.Scopes.{with_lexicals}
use Rattle.mt_eval_meaning.specs.Hoisting.{name_of_decl}
use Rattle.mt_resolve_names.proofs.entry.Entry.bind_all.Given as goal

abbrev pub invariant-loop-left : goal.invariant-loop-left
invariant-loop-left l =
    (l.self.0 ≡ l.fn.self.0)
    × (with_lexicals l.fn.self.0 (map (λ d. record { name = name_of_decl d; constant = l.constant }) l.left) l.self.1 ≡ with_lexicals l.fn.self.0 (map (λ d. record { name = name_of_decl d; constant = l.constant }) l.decls) l.fn.self.1)

abbrev pub decreases-loop-left : goal.decreases-loop-left
decreases-loop-left l = length l.left
