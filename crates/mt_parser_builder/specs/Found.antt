-- Trees are made in text order. Beside a tree there come out the tildes that were found up to its end, and the dollars of the tilde that it stands in.
use Rattle.std.specs.Prelude.{ℕ, ◌+◌, List, [], ◌∷◌, ◌++◌, length, nat_lt, Option, Some, None, if◌then◌else◌}
use Rattle.mt_tree.specs.declared.place.Place.{Place}
use Rattle.mt_syntax.specs.declared.tree.Expr.{Expr}
use Rattle.mt_syntax.specs.declared.tree.Stmt.{Stmt}
use Rattle.mt_syntax.specs.declared.tree.ExprKind.TheOpen.{ExprKind-F}
use Rattle.mt_syntax.specs.declared.program.Tilde.{Tilde}
use Rattle.mt_parser_builder.specs.declared.tier.Tier.{Tier}
use Rattle.mt_parser_builder.specs.declared.tier.Tier.TheVariants as tier
use Rattle.mt_parser_builder.specs.Syntax.{expr}

pub record Found : Type 0 where
  -- how many tildes begin before the first of these
  pub before : ℕ
  -- in text order
  pub tildes : List Tilde
  -- the expressions of the dollars that stand directly in the tilde, in text order
  pub dollars : List Expr

-- what is made from what was found before
abbrev pub Making : Type 0 → Type 0
Making X = Found → X × Found

abbrev pub one : {A X : Type 0} → (A → X) → Making A → Making X
one f a s = (f (a s).0, (a s).1)

abbrev pub two : {A B X : Type 0} → (A → B → X) → Making A → Making B → Making X
two f a b s = let x = a s in let y = b x.1 in (f x.0 y.0, y.1)

abbrev pub three : {A B C X : Type 0} → (A → B → C → X) → Making A → Making B → Making C → Making X
three f a b c s = let x = a s in let y = b x.1 in let z = c y.1 in (f x.0 y.0 z.0, z.1)

abbrev pub four : {A B C D X : Type 0} → (A → B → C → D → X) → Making A → Making B → Making C → Making D → Making X
four f a b c d s = let x = a s in let y = b x.1 in let z = c y.1 in let u = d z.1 in (f x.0 y.0 z.0 u.0, u.1)

-- the number of the next tilde
abbrev pub next_tilde : Found → ℕ
next_tilde s = s.before + length s.tildes

-- a number of a tilde or a dollar, where it and the one behind it fit 32 bits
abbrev pub number_of : ℕ → Option ℕ
number_of n = if nat_lt n 0xFFFF_FFFF then Some n else None

-- nothing was found yet in the next tilde
abbrev pub within : Found → Found
within s = record { before = next_tilde s + 1; tildes = []; dollars = [] }

-- A tilde stands before those in it.
abbrev pub tilde_made : Place → Found → List Stmt × Found → Expr × Found
tilde_made p s r =
    (expr p (ExprKind-F.ExprKind::Tilde (next_tilde s)), record s { tildes = s.tildes ++ record { id = next_tilde s; body = r.0; dollars = r.1.dollars } ∷ r.1.tildes })

-- A dollar directly in a tilde is known by its number there; none may stand in other code.
abbrev pub dollar_made : Tier → Place → Expr × Found → Expr × Found
dollar_made tier.Client p r = (expr p (ExprKind-F.ExprKind::Dollar (length r.1.dollars)), record r.1 { dollars = r.1.dollars ++ r.0 ∷ [] })
dollar_made tier.Server p r = (expr p (ExprKind-F.Stray r.0), r.1)
