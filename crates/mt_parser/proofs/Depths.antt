-- A program that the builder makes is as deep as the tree that it is made from.
use Rattle.std.proofs.Common.{◌≡◌, ℕ, suc, ◌+◌, ◌-◌, ◌<◌, ◌≤◌, max, Bool, true, false, Option, None, Some, refl, arith, subst}
use Rattle.std.specs.Prelude.{◌==◌, if◌then◌else◌}
use Rattle.std.proofs.lemmas.Bool.{eqb-true}
use Rattle.std.proofs.lemmas.Bool.Decides.{nat_tests}
use Rattle.mt_tree.specs.declared.place.Place.{Place}
use Rattle.mt_syntax.specs.Depth.{depth_of_kind, depth_of_program}
use Rattle.mt_syntax.specs.Fold.{Every, ExprKindLayer}
use Rattle.mt_syntax.specs.Gathering.{of_expr_kind}
use Rattle.mt_syntax.specs.declared.tree.ExprKind.TheOpen.{ExprKind-F}
use Rattle.mt_grammar.specs.Depth.{below, counted_place, first_at, firsts_at, found_at, or_else, too_deep_at}
use Rattle.mt_grammar.specs.ParseTree.{ParseTree, ParseTrees}
use Rattle.mt_grammar.specs.Tree.{Stmts}
use Rattle.mt_parser_builder.specs.Program.{program_of}
use Rattle.mt_parser.proofs.Gathering.{IsPlain}
use Rattle.mt_parser.proofs.Gathers.{Counts, Passes}
use Rattle.mt_parser.proofs.Joins.{Joins}
use Rattle.mt_parser.proofs.Nested.{ProgramGathering, ProgramRules, program_holds}

-- Levels are counted down. Where no node stands too deep by them, the depth is below their number, and where one does it is not.
abbrev IsDepth : Option Place → ℕ → ℕ → Type 0
IsDepth None l depth = depth < l
IsDepth (Some p) l depth = l ≤ depth

abbrev Within : (ℕ → Option Place) → ℕ → Type 0
Within first depth = (l : ℕ) → 1 ≤ l → IsDepth (first l) l depth

abbrev NodeWithin : ParseTree → ℕ → ℕ → ℕ → Type 0
NodeWithin r a m depth = Within (first_at r) depth

abbrev RowWithin : ParseTrees → ℕ → ℕ → ℕ → Type 0
RowWithin rs a m depth = Within (firsts_at rs) depth

max_joins : Joins 0 max
max_joins = record { left = λ x. omega arith; right = λ x. omega arith; along = λ x y z. grind (arith, nat_tests) }

both_within : (o other : Option Place) (l x y : ℕ) → IsDepth o l x → IsDepth other l y → IsDepth (or_else o other) l (max x y)
both_within None None l x y h g = grind (arith, nat_tests)
both_within None (Some p) l x y h g = grind (arith, nat_tests)
both_within (Some p) other l x y h g = grind (arith, nat_tests)

-- a statement or an expression is one deeper than what is in it
one_more : (o : Option Place) (rs : ParseTrees) (depth : ℕ) → Counts o → Within (firsts_at rs) depth → Within (λ l. found_at o l (firsts_at rs (below o l))) (suc depth)
one_more None rs depth c h l some = absurd c
one_more (Some p) rs depth c h l some = by (l == 1) refl
  where
    deeper : (o : Option Place) (k : ℕ) → l ≡ k + 1 → IsDepth o k depth → IsDepth o l (suc depth)
    deeper None k e h = omega (arith, e, h)
    deeper (Some p) k e h = omega (arith, e, h)

    by : (t : Bool) → (l == 1) ≡ t → IsDepth (if t then Some p else firsts_at rs (l - 1)) l (suc depth)
    by true is = let e = eqb-true l 1 is in omega arith
    by false is = let two : 2 ≤ l = grind (arith, nat_tests) in deeper (firsts_at rs (l - 1)) (l - 1) (omega arith) (h (l - 1) (omega arith))

as_deep : (o : Option Place) (rs : ParseTrees) (depth : ℕ) → Passes o → Within (firsts_at rs) depth → Within (λ l. found_at o l (firsts_at rs (below o l))) depth
as_deep None rs depth c h = h
as_deep (Some p) rs depth c h = absurd c

plain_kinds : (tilde dollar : ℕ → ℕ) (x : ExprKindLayer (Every ℕ)) → IsPlain x → depth_of_kind tilde dollar x ≡ of_expr_kind 0 max x
plain_kinds tilde dollar (ExprKind-F.ExprKind::Tilde id) plain = absurd plain
plain_kinds tilde dollar (ExprKind-F.ExprKind::Dollar at) plain = absurd plain
plain_kinds tilde dollar _ plain = refl

abbrev measuring : ProgramGathering ℕ
measuring = record {
  none = 0;
  join = max;
  wrap = suc;
  kind = depth_of_kind;
  numbered = λ id depth. depth;
  joins = max_joins;
  kinds = plain_kinds;
  kind_tilde = λ tilde dollar id. refl;
  kind_dollar = λ tilde dollar at. refl;
  kind_stray = λ tilde dollar x. refl;
}

rules : ProgramRules measuring NodeWithin RowWithin
rules = record {
  nothing = λ a l some. some;
  behind = λ rs r a i x j y h g l some. both_within (firsts_at rs l) (first_at r l) l x y (h l some) (g l some);
  counted = λ z rs a i x c h. one_more (counted_place z) rs x c h;
  passed = λ z rs a i x c h. as_deep (counted_place z) rs x c h;
  at_tilde = λ p i rs a m x h. one_more (Some p) rs x tt h;
}

depth_is : (ss : Stmts) (most : ℕ) → IsDepth (too_deep_at most ss) (most + 1) (depth_of_program (program_of ss))
depth_is ss most = program_holds measuring NodeWithin RowWithin rules ss (most + 1) (omega arith)

pub within_limit : (ss : Stmts) (most : ℕ) → too_deep_at most ss ≡ None → depth_of_program (program_of ss) ≤ most
within_limit ss most e = let h = subst (λ o. IsDepth o (most + 1) (depth_of_program (program_of ss))) e (depth_is ss most) in omega arith

pub past_limit : (ss : Stmts) (most : ℕ) (p : Place) → too_deep_at most ss ≡ Some p → most < depth_of_program (program_of ss)
past_limit ss most p e = let h = subst (λ o. IsDepth o (most + 1) (depth_of_program (program_of ss))) e (depth_is ss most) in omega arith
