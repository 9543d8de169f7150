-- The values in a node, taken from their front.
use Rattle.std.specs.Prelude.{ℕ, zero, suc, List, [], ◌∷◌, Option, None, Some}
use Rattle.mt_syntax.specs.declared.tree.Mark.{Mark}
use Rattle.mt_syntax.specs.declared.tree.Expr.{Expr}
use Rattle.mt_syntax.specs.declared.tree.Stmt.{Stmt}
use Rattle.mt_syntax.specs.declared.tree.Prop.{Prop}
use Rattle.mt_syntax.specs.declared.tree.Decl.{Decl}
use Rattle.mt_syntax.specs.declared.tree.ForStart.{ForStart}
use Rattle.mt_syntax.specs.declared.tree.MarkupAttribute.{MarkupAttribute}
use Rattle.mt_syntax.specs.declared.tree.MarkupChild.{MarkupChild}
use Rattle.mt_grammar.specs.declared.terminal.Heading.{Heading}
use Rattle.mt_grammar.specs.declared.terminal.Heading.TheVariants as heading
use Rattle.mt_parser_builder.specs.declared.value.Value.{Value}
use Rattle.mt_parser_builder.specs.declared.value.Value.TheVariants as value
use Rattle.mt_parser_builder.specs.Syntax as made
use Rattle.mt_parser_builder.specs.Answer.{on_both}

abbrev pub Values : Type 0
Values = List Value

-- ---- the first one

abbrev pub expr_first : Values → Option (Expr × Values)
expr_first (value.Expr e ∷ vs) = Some (e, vs)
expr_first _ = None

abbrev pub stmt_first : Values → Option (Stmt × Values)
stmt_first (value.Stmt s ∷ vs) = Some (s, vs)
stmt_first _ = None

abbrev pub word_first : Values → Option (Mark × Values)
word_first (value.Word m ∷ vs) = Some (m, vs)
word_first _ = None

abbrev pub optional_first : Values → Option (Option Expr × Values)
optional_first (value.Optional o ∷ vs) = Some (o, vs)
optional_first _ = None

abbrev pub start_first : Values → Option (ForStart × Values)
start_first (value.Start a ∷ vs) = Some (a, vs)
start_first _ = None

-- of an attribute or a declaration, whose value is still to come
abbrev pub attribute_name_first : Values → Option (Mark × Values)
attribute_name_first (value.Attribute m v ∷ vs) = Some (m, vs)
attribute_name_first _ = None

abbrev pub decl_name_first : Values → Option (Mark × Values)
decl_name_first (value.Decl m v ∷ vs) = Some (m, vs)
decl_name_first _ = None

-- the name of a function
abbrev pub title_first : Heading → Values → Option (Option Mark × Values)
title_first heading.Expression vs = Some (None, vs)
title_first _ vs = on_both (word_first vs) (λ m us. Some (Some m, us))

abbrev pub attribute_first : Values → Option (MarkupAttribute × Values)
attribute_first (value.Attribute m v ∷ vs) = Some (made.attribute m v, vs)
attribute_first _ = None

abbrev pub child_first : Values → Option (MarkupChild × Values)
child_first (value.Child c ∷ vs) = Some (c, vs)
child_first _ = None

abbrev pub decl_first : Values → Option (Decl × Values)
decl_first (value.Decl m v ∷ vs) = Some (made.decl m v, vs)
decl_first _ = None

-- a key and its value
abbrev pub key_first : Values → Option (List ℕ × Values)
key_first (value.Key key ∷ vs) = Some (key, vs)
key_first (value.Word m ∷ vs) = Some (m.name, vs)
key_first _ = None

abbrev pub prop_first : Values → Option (Prop × Values)
prop_first vs = on_both (key_first vs) (λ key us. on_both (expr_first us) (λ e ws. Some (made.prop key e, ws)))

-- ---- a given number of one kind

abbrev pub firsts : {X : Type 0} → (Values → Option (X × Values)) → ℕ → Values → Option (List X × Values)
firsts f zero vs = Some ([], vs)
firsts f (suc i) vs = on_both (f vs) (λ x us. on_both (firsts f i us) (λ xs ws. Some (x ∷ xs, ws)))
