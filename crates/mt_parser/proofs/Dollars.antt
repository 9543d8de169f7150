-- The dollars of a tilde that the builder makes are numbered in text order.
use Rattle.std.proofs.Common.{◌≡◌, ℕ, ◌+◌, List, [], ◌∷◌, ◌++◌, length, refl, ap, ◌∙◌, arith, length-append}
use Rattle.std.specs.List.{range_with_len}
use Rattle.mt_syntax.specs.Fold.{Every, ExprKindLayer}
use Rattle.mt_syntax.specs.Gathering.{of_expr_kind, of_markup_child, of_markup_value}
use Rattle.mt_syntax.specs.Numbering.{AreNumbers, dollars_of, dollars_of_kind}
use Rattle.mt_syntax.specs.declared.tree.ExprKind.TheOpen.{ExprKind-F}
use Rattle.mt_grammar.specs.ParseTree.{ParseTree, ParseTrees}
use Rattle.mt_grammar.specs.Tree.{Stmts}
use Rattle.mt_parser_builder.specs.declared.tier.Tier.{Tier}
use Rattle.mt_parser_builder.specs.declared.tier.Tier.TheVariants as tier
use Rattle.mt_parser_builder.specs.Found.{Found, within}
use Rattle.mt_parser_builder.specs.Program.{stmts_of}
use Rattle.mt_parser.proofs.Gathering.{Gathering, IsPlain}
use Rattle.mt_parser.proofs.Gathers.{Rules, body_gathers}
use Rattle.mt_parser.proofs.Numbers.{lists_join, range_on}

abbrev FitsTier : Tier → ℕ → Type 0
FitsTier tier.Client more = Unit {0}
FitsTier tier.Server more = more ≡ 0

-- the numbers of the dollars that were found from s to t
record Counted (k : Tier) (s : Found) (numbers : List ℕ) (t : Found) : Type 0 where
  more : ℕ
  size : length t.dollars ≡ length s.dollars + more
  fits : FitsTier k more
  are : numbers ≡ range_with_len (length s.dollars) more

abbrev Dollars : {R : Type 0} → R → Tier → Found → (Unit {0} → List ℕ) → Found → Type 0
Dollars r k s x t = Counted k s (x tt) t

none_fits : (k : Tier) → FitsTier k 0
none_fits tier.Client = tt
none_fits tier.Server = refl

both_fit : (k : Tier) (i j : ℕ) → FitsTier k i → FitsTier k j → FitsTier k (i + j)
both_fit tier.Client i j h g = tt
both_fit tier.Server i j h g = omega arith

none_counted : (k : Tier) (s : Found) → Counted k s [] s
none_counted k s = record { more = 0; size = omega arith; fits = none_fits k; are = refl }

both_counted : (k : Tier) (s : Found) (xs : List ℕ) (t : Found) (ys : List ℕ) (u : Found) → Counted k s xs t → Counted k t ys u → Counted k s (xs ++ ys) u
both_counted k s xs t ys u a b = record {
  more = a.more + b.more;
  size = omega (arith, a.size, b.size);
  fits = both_fit k a.more b.more a.fits b.fits;
  are = ap (λ l. l ++ ys) a.are ∙ ap (λ l. range_with_len (length s.dollars) a.more ++ l) (b.are ∙ ap (λ n. range_with_len n b.more) a.size) ∙ range_on (length s.dollars) a.more b.more;
}

-- server code is the same on both tiers
in_dollar : (k : Tier) (s : Found) (xs : List ℕ) (t : Found) → Counted tier.Server s xs t → Counted k s xs t
in_dollar k s xs t a = record { more = a.more; size = a.size; fits = fits k a.fits; are = a.are }
  where
    fits : (k : Tier) → a.more ≡ 0 → FitsTier k a.more
    fits tier.Client e = tt
    fits tier.Server e = e

plain_kinds : (x : ExprKindLayer (Every (List ℕ))) → IsPlain x → dollars_of_kind x ≡ of_expr_kind [] (λ xs ys. xs ++ ys) x
plain_kinds (ExprKind-F.ExprKind::Dollar at) plain = absurd plain
plain_kinds _ plain = refl

abbrev listing : Gathering (Unit {0}) (List ℕ)
listing = record {
  none = [];
  join = λ xs ys. xs ++ ys;
  wrap = λ x. x;
  kind = λ v. dollars_of_kind;
  child = λ v. of_markup_child [] (λ xs ys. xs ++ ys);
  value = λ v. of_markup_value [] (λ xs ys. xs ++ ys);
  joins = lists_join;
  kinds = λ v x plain. plain_kinds x plain;
  children = λ v x plain. refl;
  values = λ v x plain. refl;
}

rules : Rules listing (Dollars {R = ParseTree}) (Dollars {R = ParseTrees})
rules = record {
  nothing = none_counted;
  behind = λ rs r k s x t y u a b. both_counted k s (x tt) t (y tt) u a b;
  counted = λ z rs k s x t c a. a;
  passed = λ z rs k s x t c a. a;
  at_tilde = λ p i rs k s body t a. record { more = 0; size = omega arith; fits = none_fits k; are = refl };
  at_dollar = λ p rs s e t a. record {
    more = 1;
    size = omega (arith, a.size, a.fits, length-append t.dollars (e ∷ []));
    fits = tt;
    are = let same : length t.dollars ≡ length s.dollars = omega (arith, a.size, a.fits) in ap (λ n. n ∷ []) same;
  };
  at_stray = λ p rs s x t a. a;
  at_child = λ rs k s x t a. in_dollar k s (x tt) t a;
  at_value = λ rs k s x t a. in_dollar k s (x tt) t a;
}

pub dollars_are_numbered : (ss : Stmts) (s : Found) → let r = stmts_of tier.Client ss (within s) in AreNumbers (dollars_of r.0) (length r.1.dollars)
dollars_are_numbered ss s =
    let a = body_gathers listing (Dollars {R = ParseTree}) (Dollars {R = ParseTrees}) rules ss tier.Client (within s) in
    a.are ∙ ap (range_with_len 0) (let h = a.size in omega arith)
