-- The tildes of a program that the builder makes are numbered in text order.
use Rattle.std.proofs.Common.{◌≡◌, ℕ, zero, suc, ◌+◌, List, [], ◌∷◌, ◌++◌, length, refl, ap, ◌∙◌, arith, append-nil, append_assoc}
use Rattle.std.specs.List.{range_with_len}
use Rattle.mt_syntax.specs.Fold.{Every, ExprKindLayer}
use Rattle.mt_syntax.specs.Gathering.{of_expr_kind}
use Rattle.mt_syntax.specs.Numbering.{AreNumbers, tildes_of, tildes_of_kind}
use Rattle.mt_syntax.specs.declared.tree.ExprKind.TheOpen.{ExprKind-F}
use Rattle.mt_grammar.specs.ParseTree.{ParseTree, ParseTrees}
use Rattle.mt_grammar.specs.Tree.{Stmts}
use Rattle.mt_parser_builder.specs.Program.{program_of}
use Rattle.mt_parser.proofs.Gathering.{IsPlain}
use Rattle.mt_parser.proofs.Joins.{Joins}
use Rattle.mt_parser.proofs.Nested.{ProgramGathering, ProgramRules, program_holds}

-- numbers behind numbers
pub range_on : (a i j : ℕ) → range_with_len a i ++ range_with_len (a + i) j ≡ range_with_len a (i + j)
range_on a zero j = let e : a + 0 ≡ a = omega arith in let h : j ≡ 0 + j = omega arith in ap (λ n. range_with_len n j) e ∙ ap (range_with_len a) h
range_on a (suc i) j =
    let e : a + suc i ≡ (a + 1) + i = omega arith in let h : suc (i + j) ≡ suc i + j = omega arith in
    ap (λ n. a ∷ range_with_len (a + 1) i ++ range_with_len n j) e ∙ ap (λ l. a ∷ l) (range_on (a + 1) i j) ∙ ap (range_with_len a) h

pub lists_join : {X : Type 0} → Joins {X = List X} [] (λ xs ys. xs ++ ys)
lists_join = record { left = λ xs. refl; right = append-nil; along = append_assoc }

abbrev Numbered : {R : Type 0} → R → ℕ → ℕ → List ℕ → Type 0
Numbered r a m ids = ids ≡ range_with_len a m

plain_kinds : (tilde dollar : ℕ → List ℕ) (x : ExprKindLayer (Every (List ℕ))) → IsPlain x → tildes_of_kind tilde dollar x ≡ of_expr_kind [] (λ xs ys. xs ++ ys) x
plain_kinds tilde dollar (ExprKind-F.ExprKind::Tilde id) plain = absurd plain
plain_kinds tilde dollar (ExprKind-F.ExprKind::Dollar at) plain = absurd plain
plain_kinds tilde dollar _ plain = refl

abbrev listing : ProgramGathering (List ℕ)
listing = record {
  none = [];
  join = λ xs ys. xs ++ ys;
  wrap = λ x. x;
  kind = tildes_of_kind;
  numbered = λ id ids. id ∷ ids;
  joins = lists_join;
  kinds = plain_kinds;
  kind_tilde = λ tilde dollar id. refl;
  kind_dollar = λ tilde dollar at. refl;
  kind_stray = λ tilde dollar x. refl;
}

rules : ProgramRules listing (Numbered {R = ParseTree}) (Numbered {R = ParseTrees})
rules = record {
  nothing = λ a. refl;
  behind = λ rs r a i x j y h g. ap (λ z. z ++ y) h ∙ ap (λ z. range_with_len a i ++ z) g ∙ range_on a i j;
  counted = λ z rs a i x c h. h;
  passed = λ z rs a i x c h. h;
  at_tilde = λ p i rs a m x h. ap (λ z. a ∷ z) h;
}

pub tildes_are_numbered : (ss : Stmts) → AreNumbers (tildes_of (program_of ss)) (length (program_of ss).tildes)
tildes_are_numbered ss = program_holds listing (Numbered {R = ParseTree}) (Numbered {R = ParseTrees}) rules ss
