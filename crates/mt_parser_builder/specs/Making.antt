-- What a node makes of the values of those in it, and of what was found before.
use Rattle.std.specs.Prelude.{ℕ, List, [], ◌∷◌, Option, None, Some, option_map, option_and_then, length}
use Rattle.mt_tree.specs.declared.place.Place.{Place}
use Rattle.mt_syntax.specs.declared.tree.Function.{Function}
use Rattle.mt_syntax.specs.declared.tree.ExprKind.TheOpen.{ExprKind-F, StmtKind-F}
use Rattle.mt_syntax.specs.Fold.{Tree, ExprKindLayer, StmtKindLayer}
use Rattle.mt_grammar.specs.declared.terminal.Heading.{Heading}
use Rattle.mt_parser_builder.specs.declared.part.Part.{Part}
use Rattle.mt_parser_builder.specs.declared.part.Part.TheVariants as part
use Rattle.mt_parser_builder.specs.declared.part.ExprPart.{ExprPart}
use Rattle.mt_parser_builder.specs.declared.part.ExprPart.TheVariants as expr_part
use Rattle.mt_parser_builder.specs.declared.part.StmtPart.{StmtPart}
use Rattle.mt_parser_builder.specs.declared.part.StmtPart.TheVariants as stmt_part
use Rattle.mt_parser_builder.specs.declared.part.Piece.{Piece}
use Rattle.mt_parser_builder.specs.declared.part.Piece.TheVariants as piece
use Rattle.mt_parser_builder.specs.declared.tier.Tier.{Tier}
use Rattle.mt_parser_builder.specs.declared.tier.Tier.TheVariants as tier
use Rattle.mt_parser_builder.specs.declared.value.Value.{Value}
use Rattle.mt_parser_builder.specs.declared.value.Value.TheVariants as value
use Rattle.mt_parser_builder.specs.Syntax as made
use Rattle.mt_parser_builder.specs.Answer.{on_both}
use Rattle.mt_parser_builder.specs.Found.{Found, next_tilde, number_of, within, tilde_made, dollar_made}
use Rattle.mt_parser_builder.specs.Parts.{Values, expr_first, stmt_first, word_first, optional_first, start_first, attribute_name_first, decl_name_first, title_first, attribute_first, child_first, decl_first, prop_first, firsts}

abbrev pub tier_within_piece : Piece → Tier → Tier
tier_within_piece piece.AttributeDollar k = tier.Server
tier_within_piece piece.ChildDollar k = tier.Server
tier_within_piece _ k = k

abbrev pub tier_within : Part → Tier → Tier
tier_within (part.Tilde p i) k = tier.Client
tier_within (part.Dollar p) k = tier.Server
tier_within (part.Piece x) k = tier_within_piece x k
tier_within _ k = k

-- with the number of its parameters and that of its statements
abbrev pub function_made : Heading → ℕ → ℕ → Values → Option Function
function_made h m i vs =
    on_both (title_first h vs) (λ name us. on_both (firsts word_first m us) (λ ns ws. on_both (firsts stmt_first i ws) (λ ss xs. Some (made.function name ns ss))))

-- with the number of its attributes and that of its children
abbrev pub markup_made : ℕ → ℕ → Values → Option (ExprKindLayer Tree)
markup_made m i vs =
    on_both (word_first vs) (λ tag us. on_both (firsts attribute_first m us) (λ ats ws. on_both (firsts child_first i ws) (λ cs xs. Some (ExprKind-F.Markup (made.markup tag.name ats cs)))))

abbrev pub kind_made : ExprPart → Values → Option (ExprKindLayer Tree)
kind_made (expr_part.Name text) vs = Some (ExprKind-F.Name text)
kind_made (expr_part.Number n) vs = Some (ExprKind-F.Num n)
kind_made (expr_part.Text text) vs = Some (ExprKind-F.ExprKind::Text text)
kind_made (expr_part.Constant c) vs = Some (made.constant_kind c)
kind_made (expr_part.Array i) vs = on_both (firsts expr_first i vs) (λ es us. Some (ExprKind-F.Arr es))
kind_made (expr_part.Object i) vs = on_both (firsts prop_first i vs) (λ ps us. Some (ExprKind-F.Obj ps))
kind_made (expr_part.Function h m i) vs = option_map (λ f. ExprKind-F.Fun f) (function_made h m i vs)
kind_made (expr_part.Unary u) vs = on_both (expr_first vs) (λ a us. Some (ExprKind-F.Unary u a))
kind_made (expr_part.Step d) vs = on_both (expr_first vs) (λ a us. Some (ExprKind-F.Step d a))
kind_made (expr_part.Operation o) vs = on_both (expr_first vs) (λ a us. on_both (expr_first us) (λ b ws. Some (made.infix_kind o a b)))
kind_made expr_part.Condition vs = on_both (expr_first vs) (λ a us. on_both (expr_first us) (λ b ws. on_both (expr_first ws) (λ c xs. Some (ExprKind-F.Cond a b c))))
kind_made (expr_part.Assign o) vs = on_both (expr_first vs) (λ a us. on_both (expr_first us) (λ b ws. Some (ExprKind-F.Assign o a b)))
kind_made expr_part.Index vs = on_both (expr_first vs) (λ a us. on_both (expr_first us) (λ b ws. Some (ExprKind-F.Index a b)))
kind_made (expr_part.Call i) vs = on_both (expr_first vs) (λ a us. on_both (firsts expr_first i us) (λ es ws. Some (ExprKind-F.Call a es)))
kind_made (expr_part.Element m i) vs = markup_made m i vs

abbrev pub stmt_made : StmtPart → Values → Option (StmtKindLayer Tree)
stmt_made stmt_part.Expression vs = on_both (expr_first vs) (λ a us. Some (StmtKind-F.StmtKind::Expr a))
stmt_made (stmt_part.Var d i) vs = on_both (firsts decl_first i vs) (λ ds us. Some (StmtKind-F.StmtKind::Var d ds))
stmt_made (stmt_part.Declare h m i) vs = option_map (made.declared_kind h) (function_made h m i vs)
stmt_made stmt_part.If vs = on_both (expr_first vs) (λ a us. on_both (stmt_first us) (λ b ws. Some (StmtKind-F.If a b None)))
stmt_made stmt_part.IfElse vs = on_both (expr_first vs) (λ a us. on_both (stmt_first us) (λ b ws. on_both (stmt_first ws) (λ c xs. Some (StmtKind-F.If a b (Some c)))))
stmt_made stmt_part.While vs = on_both (expr_first vs) (λ a us. on_both (stmt_first us) (λ b ws. Some (StmtKind-F.While a b)))
stmt_made stmt_part.For vs =
    on_both (start_first vs) (λ a us. on_both (optional_first us) (λ b ws. on_both (optional_first ws) (λ c xs. on_both (stmt_first xs) (λ d ys. Some (StmtKind-F.For a b c d)))))
stmt_made stmt_part.Return vs = on_both (optional_first vs) (λ o us. Some (StmtKind-F.Return o))
stmt_made (stmt_part.Jump j) vs = Some (made.jump_kind j)
stmt_made stmt_part.Throw vs = on_both (expr_first vs) (λ a us. Some (StmtKind-F.Throw a))
stmt_made stmt_part.Try vs = on_both (stmt_first vs) (λ a us. on_both (word_first us) (λ m ws. on_both (stmt_first ws) (λ b xs. Some (StmtKind-F.Try a m b))))
stmt_made (stmt_part.Block i) vs = on_both (firsts stmt_first i vs) (λ ss us. Some (StmtKind-F.Block ss))
stmt_made stmt_part.Empty vs = Some StmtKind-F.Empty

abbrev pub piece_made : Piece → Values → Option Value
piece_made (piece.Word m) vs = Some (value.Word m)
piece_made (piece.QuotedKey text) vs = Some (value.Key text)
piece_made (piece.AttributeName m) vs = Some (value.Attribute m (made.quoted_value []))
piece_made (piece.AttributeQuoted text) vs = on_both (attribute_name_first vs) (λ m us. Some (value.Attribute m (made.quoted_value text)))
piece_made piece.AttributeTilde vs = on_both (attribute_name_first vs) (λ m us. on_both (expr_first us) (λ e ws. Some (value.Attribute m (made.tilde_value e))))
piece_made piece.AttributeDollar vs = on_both (attribute_name_first vs) (λ m us. on_both (expr_first us) (λ e ws. Some (value.Attribute m (made.dollar_value e))))
piece_made (piece.ChildText text) vs = Some (value.Child (made.text_child text))
piece_made piece.ChildDirect vs = on_both (expr_first vs) (λ e us. Some (value.Child (made.direct_child e)))
piece_made piece.ChildDollar vs = on_both (expr_first vs) (λ e us. Some (value.Child (made.dollar_child e)))
piece_made (piece.DeclName m) vs = Some (value.Decl m None)
piece_made piece.DeclValue vs = on_both (decl_name_first vs) (λ m us. on_both (expr_first us) (λ e ws. Some (value.Decl m (Some e))))
piece_made piece.Absent vs = Some (value.Optional None)
piece_made piece.Present vs = on_both (expr_first vs) (λ e us. Some (value.Optional (Some e)))
piece_made piece.StartOptional vs = on_both (optional_first vs) (λ o us. Some (value.Start (made.start_of o)))
piece_made (piece.StartVars i) vs = on_both (firsts decl_first i vs) (λ ds us. Some (value.Start (made.start_with ds)))

-- ---- with what was found

abbrev pub Making : Type 0
Making = Tier → Found → Option (Value × Found)

abbrev pub tilde_value : Place → ℕ → Found → Values × Found → Option (Value × Found)
tilde_value p i s r = on_both (firsts stmt_first i r.0) (λ body us. (let t = tilde_made p s (body, r.1) in Some (value.Expr t.0, t.1)))

abbrev pub dollar_value : Tier → Place → Values → Found → Option (Value × Found)
dollar_value tier.Server p vs s = on_both (expr_first vs) (λ e us. let d = dollar_made tier.Server p (e, s) in Some (value.Expr d.0, d.1))
dollar_value tier.Client p vs s =
    on_both (expr_first vs) (λ e us. option_and_then (λ number. let d = dollar_made tier.Client p (e, s) in Some (value.Expr d.0, d.1)) (number_of (length s.dollars)))

-- what a node that is no tilde makes
abbrev pub finished : Part → Tier → Values → Found → Option (Value × Found)
finished (part.Expr p x) k vs s = option_map (λ kind. (value.Expr (made.expr p kind), s)) (kind_made x vs)
finished (part.Tilde p i) k vs s = None
finished (part.Dollar p) k vs s = dollar_value k p vs s
finished (part.Stmt p x) k vs s = option_map (λ kind. (value.Stmt (made.stmt p kind), s)) (stmt_made x vs)
finished (part.Piece x) k vs s = option_map (λ v. (v, s)) (piece_made x vs)

-- the nodes of a row, one behind the other
abbrev pub all_made : List Making → Tier → Found → Option (Values × Found)
all_made [] k s = Some ([], s)
all_made (a ∷ rest) k s = on_both (a k s) (λ v t. on_both (all_made rest k t) (λ vs u. Some (v ∷ vs, u)))

abbrev pub tilde_in : Place → ℕ → List Making → Found → Option (Value × Found)
tilde_in p i children s = option_and_then (λ number. on_both (all_made children tier.Client (within s)) (λ vs t. tilde_value p i s (vs, t))) (number_of (next_tilde s))

abbrev pub node_made : Part → List Making → Making
node_made (part.Tilde p i) children k s = tilde_in p i children s
node_made x children k s = on_both (all_made children (tier_within x k) s) (λ vs t. finished x k vs t)
