-- A tree with short leaves in the place of its own: of its names, its texts and its values. What the form of a tree asks of a leaf, a
-- short one meets where the tree's own does.
use Rattle.std.proofs.Common.{◌≡◌, ℕ, ◌≤◌, ◌^◌, pos, Bool, true, false, not, ◌&&◌, List, [], ◌∷◌, map, refl, arith, rules}
use Rattle.std.specs.Prelude.{if◌then◌else◌, codes, encode_utf8_all, option_map}
use Rattle.std.specs.Str.{all_scalars}
use lib.Utf8
use Rattle.mt_tree.specs.Tables.{is_void_tag}
use Rattle.mt_tree.specs.Text.{units_of}
use Rattle.mt_tree.specs.declared.data.Data.{Data, the_lemmas}
use Rattle.mt_tree.specs.declared.data.Data as made
use Rattle.mt_syntax.specs.Data.{is_data}
use Rattle.mt_syntax.specs.Fold.{ExprKindLayer, MarkupChildLayer, MarkupValueLayer, StmtKindLayer, DeclLayer, FunctionLayer, MarkupLayer, MarkupAttributeLayer, PropLayer, Steps, Tree, on_stmt, same}
use Rattle.mt_syntax.specs.Names.{is_attribute_name, is_name, is_tag_name}
use Rattle.mt_syntax.specs.Shape.{is_some_item, opens_none}
use Rattle.mt_syntax.specs.Sort.{Sort}
use Rattle.mt_syntax.specs.declared.tree.Mark.{Mark}
use Rattle.mt_syntax.specs.declared.tree.Stmt.{Stmt}
use Rattle.mt_syntax.specs.declared.tree.ExprKind.TheOpen.{ExprKind-F, MarkupChild-F, MarkupValue-F, StmtKind-F}
use Rattle.mt_syntax_laws.proofs.Related.{on}
use Rattle.unicode_ident.proofs.IdentLemmas.{is_xid_start-ascii}

-- ---- leaves

-- `a`
abbrev letter : List ℕ
letter = 97 ∷ []

-- one that is no character
abbrev no_character : List ℕ
no_character = 55296 ∷ []

abbrev pub short_name : List ℕ → List ℕ
short_name cs = if is_name cs then letter else []

abbrev pub short_text : List ℕ → List ℕ
short_text cs = if all_scalars cs then [] else no_character

abbrev pub short_value : Data → Data
short_value d = if is_data d then made.Null else made.Num (pos (2 ^ 53))

abbrev pub short_mark : Mark → Mark
short_mark m = record { place = m.place; name = short_name m.name }

abbrev pub fits_element : List ℕ → Bool
fits_element cs = is_some_item cs && all_scalars cs && opens_none cs

abbrev pub short_characters : List ℕ → List ℕ
short_characters cs = if fits_element cs then letter else []

abbrev pub short_tag : List ℕ → List ℕ
short_tag cs = if is_tag_name cs then (if is_void_tag (encode_utf8_all cs) then codes "br" else letter) else []

abbrev pub short_attribute : Mark → Mark
short_attribute m = record { place = m.place; name = if is_attribute_name m.name then letter else [] }

-- ---- nodes

module _ (A : Sort → Type 0) where
  abbrev pub shortened_expr_kind : ExprKindLayer A → ExprKindLayer A
  shortened_expr_kind (ExprKind-F.Name cs) = ExprKind-F.Name (short_name cs)
  shortened_expr_kind (ExprKind-F.ExprKind::Text cs) = ExprKind-F.ExprKind::Text (short_text cs)
  shortened_expr_kind (ExprKind-F.Val d) = ExprKind-F.Val (short_value d)
  shortened_expr_kind layer = layer

  abbrev pub shortened_markup_child : MarkupChildLayer A → MarkupChildLayer A
  shortened_markup_child (MarkupChild-F.MarkupChild::Text cs) = MarkupChild-F.MarkupChild::Text (short_characters cs)
  shortened_markup_child layer = layer

  abbrev pub shortened_markup_value : MarkupValueLayer A → MarkupValueLayer A
  shortened_markup_value (MarkupValue-F.Quoted cs) = MarkupValue-F.Quoted (short_text cs)
  shortened_markup_value layer = layer

  abbrev pub shortened_stmt_kind : StmtKindLayer A → StmtKindLayer A
  shortened_stmt_kind (StmtKind-F.Try body name handler) = StmtKind-F.Try body (short_mark name) handler
  shortened_stmt_kind layer = layer

  abbrev pub shortened_decl : DeclLayer A → DeclLayer A
  shortened_decl layer = record layer { name = short_mark layer.name }

  abbrev pub shortened_function : FunctionLayer A → FunctionLayer A
  shortened_function layer = record layer { name = option_map short_mark layer.name; parameters = map short_mark layer.parameters }

  abbrev pub shortened_markup : MarkupLayer A → MarkupLayer A
  shortened_markup layer = record layer { tag = short_tag layer.tag }

  abbrev pub shortened_markup_attribute : MarkupAttributeLayer A → MarkupAttributeLayer A
  shortened_markup_attribute layer = record layer { name = short_attribute layer.name }

  abbrev pub shortened_prop : PropLayer A → PropLayer A
  shortened_prop layer = record layer { name = short_text layer.name }

  -- the steps of a function on the tree with short leaves
  abbrev pub shortening : Steps A → Steps A
  shortening steps = record steps {
    expr_kind = λ layer. steps.expr_kind (shortened_expr_kind layer);
    markup_child = λ layer. steps.markup_child (shortened_markup_child layer);
    markup_value = λ layer. steps.markup_value (shortened_markup_value layer);
    stmt_kind = λ layer. steps.stmt_kind (shortened_stmt_kind layer);
    decl = λ layer. steps.decl (shortened_decl layer);
    function = λ layer. steps.function (shortened_function layer);
    markup = λ layer. steps.markup (shortened_markup layer);
    markup_attribute = λ layer. steps.markup_attribute (shortened_markup_attribute layer);
    prop = λ layer. steps.prop (shortened_prop layer);
  }

-- ---- trees

abbrev pub shortened : (s : Sort) → Tree s → Tree s
shortened = on (shortening Tree same)

abbrev pub shortened_body : List Stmt → List Stmt
shortened_body = map (on_stmt (shortening Tree same))

-- ---- short leaves have the form that the tree's own have

letter_starts : is_name letter ≡ true
unfolding is_name
letter_starts = rw (is_xid_start-ascii 97 (omega arith)) refl

pub name_kept : (cs : List ℕ) → is_name (short_name cs) ≡ is_name cs
unfolding is_name
name_kept cs = by (is_name cs)
  where
    by : (b : Bool) → is_name (if b then letter else []) ≡ b
    by true = letter_starts
    by false = refl

pub text_kept : (cs : List ℕ) → all_scalars (short_text cs) ≡ all_scalars cs
text_kept cs = by (all_scalars cs)
  where
    by : (b : Bool) → all_scalars (if b then [] else no_character) ≡ b
    by true = refl
    by false = refl

null_is_data : is_data made.Null ≡ true
null_is_data = search (rules, the_lemmas)

large_is_none : is_data (made.Num (pos (2 ^ 53))) ≡ false
large_is_none = search (rules, the_lemmas)

pub value_kept : (d : Data) → is_data (short_value d) ≡ is_data d
value_kept d = by (is_data d)
  where
    by : (b : Bool) → is_data (if b then made.Null else made.Num (pos (2 ^ 53))) ≡ b
    by true = null_is_data
    by false = large_is_none

pub characters_kept : (cs : List ℕ) → fits_element (short_characters cs) ≡ fits_element cs
characters_kept cs = by (fits_element cs)
  where
    by : (b : Bool) → fits_element (if b then letter else []) ≡ b
    by true = refl
    by false = refl

pub attribute_kept : (m : Mark) → is_attribute_name (short_attribute m).name ≡ is_attribute_name m.name
unfolding is_attribute_name
attribute_kept m = by (is_attribute_name m.name)
  where
    by : (b : Bool) → is_attribute_name (if b then letter else []) ≡ b
    by true = refl
    by false = refl

-- whether an element may begin so, and with children too
abbrev pub fits_tag : List ℕ → Bool → Bool → Bool → Bool → Bool
fits_tag tag attributes children apart some = is_tag_name tag && attributes && children && apart && not (is_void_tag (encode_utf8_all tag) && some)

pub tag_kept : (tag : List ℕ) (a c p some : Bool) → fits_tag (short_tag tag) a c p some ≡ fits_tag tag a c p some
unfolding is_tag_name lib.Utf8.encode
tag_kept tag a c p some = by (is_tag_name tag) (is_void_tag (encode_utf8_all tag))
  where
    by : (n v : Bool) → fits_tag (if n then (if v then codes "br" else letter) else []) a c p some ≡ (n && a && c && p && not (v && some))
    by true true = refl
    by true false = refl
    by false v = refl

-- ---- and are short

pub short_name_units : (cs : List ℕ) → units_of (short_name cs) ≤ 2
short_name_units cs = by (is_name cs)
  where
    by : (b : Bool) → units_of (if b then letter else []) ≤ 2
    by true = omega arith
    by false = omega arith

pub short_text_units : (cs : List ℕ) → units_of (short_text cs) ≤ 2
short_text_units cs = by (all_scalars cs)
  where
    by : (b : Bool) → units_of (if b then [] else no_character) ≤ 2
    by true = omega arith
    by false = omega arith

pub short_characters_units : (cs : List ℕ) → units_of (short_characters cs) ≤ 2
short_characters_units cs = by (fits_element cs)
  where
    by : (b : Bool) → units_of (if b then letter else []) ≤ 2
    by true = omega arith
    by false = omega arith

pub short_attribute_units : (m : Mark) → units_of (short_attribute m).name ≤ 2
short_attribute_units m = by (is_attribute_name m.name)
  where
    by : (b : Bool) → units_of (if b then letter else []) ≤ 2
    by true = omega arith
    by false = omega arith

pub short_tag_units : (cs : List ℕ) → units_of (short_tag cs) ≤ 2
short_tag_units cs = by (is_tag_name cs) (is_void_tag (encode_utf8_all cs))
  where
    by : (n v : Bool) → units_of (if n then (if v then codes "br" else letter) else []) ≤ 2
    by true true = omega arith
    by true false = omega arith
    by false v = omega arith
