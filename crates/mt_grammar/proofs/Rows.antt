-- What holds of rows, of levels and of precedences, apart from where the machine stands.
use Rattle.std.proofs.Common.{◌≡◌, ℕ, zero, suc, ◌+◌, ◌-◌, ◌≤◌, true, ◌∷◌, refl, sym, ap, subst, arith}
use Rattle.mt_tree.specs.declared.operators.VarKind.{VarKind}
use Rattle.mt_grammar.specs.declared.terminal.Terminal.TheVariants as k
use Rattle.mt_grammar.specs.Token.{Token, Tokens, terminal}
use Rattle.mt_grammar.specs.Stack.{Level, Focus}
use Rattle.mt_grammar.specs.Stack as f
use Rattle.mt_grammar.specs.Grammar.{Head, h_service, h_declaration, h_named, IsKey, Reads, r_up, ReadsList, first_expr, next_expr, ReadsProps, first_prop, next_prop, ReadsDecl, ReadsDecls, first_decl, next_decl}
use Rattle.mt_grammar.specs.Tree.{Title, Key, Expr, Exprs, exprs_and, Props, no_props, props_and, Decl, Decls, decls_and}
use Rattle.mt_grammar.specs.Machine.{awaits_at}
use Rattle.mt_grammar.proofs.Open.{Want, a_value, wants, is_value, holds_code, holds_element, Named, n_service, n_declaration, n_expression, SomeExprs, no_expr, some_exprs, SomeProps, no_prop, some_props, SomeDecls, no_decl, some_decls}
use Rattle.mt_grammar.proofs.Precedence.{precedence_between}

pub lower : (m l h : ℕ) {ts rest : Tokens} {e : Expr} → h ≡ l + m → Reads h ts rest e → Reads l ts rest e
lower zero l h {ts} {rest} {e} p d = subst (λ (i : ℕ). Reads i ts rest e) (omega arith) d
lower (suc m) l h p d = r_up (lower m (suc l) h (omega arith) d)

-- what holds for a precedence holds below it
pub down : (l m : ℕ) {ts rest : Tokens} {e : Expr} → l ≤ m → Reads m ts rest e → Reads l ts rest e
down l m h d = lower (m - l) l m (omega arith) d

-- rows with a comma behind each item, and one item more
pub with_expr : {list mid rest : Tokens} {es : Exprs} {e : Expr} → SomeExprs list mid es → Reads 0 mid rest e → ReadsList list rest (exprs_and es e)
with_expr no_expr d = first_expr d
with_expr (some_exprs des q) d = next_expr des q d

pub with_prop : {list mid rest : Tokens} {t c : Token} {ps : Props} {x : Key} {e : Expr} → SomeProps list (t ∷ c ∷ mid) ps → IsKey t x → terminal c ≡ k.Colon → Reads 0 mid rest e → ReadsProps list rest (props_and ps x e)
with_prop {list} {mid} {rest} {t} {c} {x} {e} some kt q d = by_some some refl
  where
    by_some : {list at : Tokens} {ps : Props} → SomeProps list at ps → at ≡ t ∷ c ∷ mid → ReadsProps list rest (props_and ps x e)
    by_some {at} no_prop p = subst (λ (z : Tokens). ReadsProps z rest (props_and no_props x e)) (sym p) (first_prop kt q d)
    by_some {list} {ps} (some_props {c = m} dps r) p = next_prop (subst (λ (z : Tokens). ReadsProps list (m ∷ z) ps) p dps) r kt q d

pub with_decl : {d : VarKind} {list mid rest : Tokens} {ds : Decls} {x : Decl} → SomeDecls d list mid ds → ReadsDecl d mid rest x → ReadsDecls d list rest (decls_and ds x)
with_decl no_decl dx = first_decl dx
with_decl (some_decls dds q) dx = next_decl dds q dx

pub named_head : {h : Title} {w m o : Token} {rest : Tokens} → Named h w m → terminal o ≡ k.Open → Head h (w ∷ m ∷ o ∷ rest) rest
named_head (n_service qw qm) qo = h_service qw qm qo
named_head (n_declaration qw qm) qo = h_declaration qw qm qo
named_head (n_expression qw qm) qo = h_named qw qm qo

pub value_is : (z : Want) → is_value z ≡ true → z ≡ a_value
value_is a_value h = refl
value_is _ h = absurd cc

-- an expression is read only above a level that wants one
pub value_low : (x : Level) → wants x ≡ a_value → awaits_at x ≤ 10
value_low (f.Operation o s) h = let b = (precedence_between o).1 in omega arith
value_low (f.Unary u p) h = omega arith
value_low (f.StepBefore d p) h = omega arith
value_low (f.StepAfter d s) h = absurd cc
value_low (f.AttributeValue m a) h = absurd cc
value_low (f.Children m a c) h = absurd cc
value_low x h = omega arith

pub code_wanted : (x : Level) → wants x ≡ a_value → holds_code x ≡ true
code_wanted (f.AttributeValue m a) h = refl
code_wanted (f.Children m a c) h = refl
code_wanted _ h = ap is_value h

pub element_wanted : (x : Level) → wants x ≡ a_value → holds_element x ≡ true
element_wanted (f.Children m a c) h = refl
element_wanted _ h = ap is_value h
