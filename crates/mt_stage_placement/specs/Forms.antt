-- Where a dollar, a tilde, a service, an element, a tag or an attribute stands that may not stand there. The expression of a
-- dollar is server code.
use Rattle.std.specs.Prelude.{ℕ, Bool, true, false, not, cond, List, [], ◌∷◌, ◌++◌, map, Option, option_map}
use Rattle.std.specs.Str.{encode_utf8_all}
use Rattle.mt_tree.specs.Tables.{is_among, is_attribute, is_handler, is_tag}
use Rattle.mt_tree.specs.declared.place.Place.{Place}
use Rattle.mt_syntax.specs.Joining.{Joining}
use Rattle.mt_syntax.specs.declared.rule.Rule.{Rule}
use Rattle.mt_syntax.specs.declared.rule.Rule.TheVariants as rule
use Rattle.mt_syntax.specs.Fold.{Every, ExprKindLayer, MarkupLayer, MarkupAttributeLayer, MarkupChildLayer, MarkupValueLayer, StmtKindLayer, Steps}
use Rattle.mt_syntax.specs.Gathering.{all_of, or_none, gathering, of_expr_kind, of_stmt_kind}
use Rattle.mt_syntax.specs.Substitution.{nowhere}
use Rattle.mt_syntax.specs.declared.tree.Mark.{Mark}
use Rattle.mt_syntax.specs.declared.tree.ExprKind.TheOpen.{ExprKind-F, MarkupChild-F, MarkupValue-F, StmtKind-F}
use Rattle.mt_stage_placement.specs.declared.forms.site.Scene.{Scene}
use Rattle.mt_stage_placement.specs.declared.forms.site.Scene.TheVariants as scene
use Rattle.mt_stage_placement.specs.declared.forms.site.Site.{Site}

abbrev pub is_top : Scene → Bool
is_top scene.Top = true
is_top _ = false

abbrev pub is_client : Scene → Bool
is_client scene.Client = true
is_client _ = false

-- what stands in a statement doesn't stand at the top of the file
abbrev pub below_top : Scene → Scene
below_top scene.Top = scene.Server
below_top s = s

abbrev pub at_node : Place → Site → Site
at_node place site = record site { place = place }

abbrev pub below : Site → Site
below site = record site { scene = below_top site.scene }

abbrev pub in_dollar : Site → Site
in_dollar site = record site { scene = scene.Server }

-- the value of an attribute
abbrev pub at_attribute : Mark → Site → Site
at_attribute name site = record { place = name.place; scene = site.scene; handler = is_handler (encode_utf8_all name.name) }

-- What is broken in a part, by where it stands; of an attribute also its name.
pub record Part (X : Type 0) : Type 0 where
  pub name : Mark
  pub found : Site → X

module _ {X : Type 0} (J : Joining X) where
  abbrev pub part : (Site → X) → Part X
  part found = record { name = record { place = nowhere; name = [] }; found = found }

  abbrev pub none : Part X
  none = part (λ site. J.none)

  abbrev pub join : Part X → Part X → Part X
  join one other = part (λ site. J.join (one.found site) (other.found site))

  abbrev pub broken_if : Bool → Rule → Place → X
  broken_if fails rule place = cond fails (J.one (record { place = place; rule = rule })) J.none

  -- a dollar that stands neither directly in a tilde nor in an element, a tilde in client code, an element in client code
  abbrev pub expr_kind_forms : ExprKindLayer (Every (Part X)) → Site → X
  expr_kind_forms (ExprKind-F.Stray a) site = J.join (broken_if true rule.S1 site.place) (a.found (in_dollar site))
  expr_kind_forms (ExprKind-F.ExprKind::Tilde id) site = broken_if (is_client site.scene) rule.S2 site.place
  expr_kind_forms (ExprKind-F.Markup markup) site = J.join (broken_if (is_client site.scene) rule.S4 site.place) (markup.found site)
  expr_kind_forms layer site = (of_expr_kind none join layer).found site

  -- a service below the top of the file
  abbrev pub stmt_kind_forms : StmtKindLayer (Every (Part X)) → Site → X
  stmt_kind_forms (StmtKind-F.Service function) site = J.join (broken_if (not (is_top site.scene)) rule.S3 site.place) (function.found (below site))
  stmt_kind_forms layer site = (of_stmt_kind none join layer).found (below site)

  -- a handler attribute that is neither a tilde nor a dollar, another attribute that is a tilde
  abbrev pub markup_value_forms : MarkupValueLayer (Every (Part X)) → Site → X
  markup_value_forms (MarkupValue-F.Quoted text) site = broken_if site.handler rule.S10 site.place
  markup_value_forms (MarkupValue-F.MarkupValue::Tilde a) site = J.join (broken_if (not site.handler) rule.S11 site.place) (a.found site)
  markup_value_forms (MarkupValue-F.MarkupValue::Dollar a) site = a.found (in_dollar site)

  abbrev pub markup_child_forms : MarkupChildLayer (Every (Part X)) → Site → X
  markup_child_forms (MarkupChild-F.MarkupChild::Text text) site = J.none
  markup_child_forms (MarkupChild-F.Direct a) site = a.found site
  markup_child_forms (MarkupChild-F.MarkupChild::Dollar a) site = a.found (in_dollar site)

  -- a name that no attribute has
  abbrev pub attribute_forms : MarkupAttributeLayer (Every (Part X)) → Site → X
  attribute_forms a site =
      J.join (broken_if (not (is_attribute (encode_utf8_all a.name.name))) rule.S12 a.name.place) (a.value.found (at_attribute a.name site))

  abbrev pub names_of : List (Part X) → List Mark
  names_of parts = map (λ a. a.name) parts

  -- a name that stands behind the same name, where these stand before the list
  abbrev pub repeated_behind : List (List ℕ) → List Mark → X
  repeated_behind names [] = J.none
  repeated_behind names (m ∷ ms) =
      J.join (broken_if (is_among names (encode_utf8_all m.name)) rule.S12 m.place) (repeated_behind (names ++ encode_utf8_all m.name ∷ []) ms)

  -- a name that no element has, an attribute that stands twice in a tag
  abbrev pub markup_forms : MarkupLayer (Every (Part X)) → Site → X
  markup_forms m site =
      J.join (broken_if (not (is_tag (encode_utf8_all m.tag))) rule.S12 site.place) (J.join ((all_of none join m.attributes).found site)
      (J.join (repeated_behind [] (names_of m.attributes)) ((all_of none join m.children).found site)))

  abbrev pub finding_forms : Steps (Every (Part X))
  finding_forms = record (gathering none join) {
    expr_kind = λ layer. part (expr_kind_forms layer);
    markup_child = λ layer. part (markup_child_forms layer);
    markup_value = λ layer. part (markup_value_forms layer);
    stmt_kind = λ layer. part (stmt_kind_forms layer);
    expr = λ e. part (λ site. e.kind.found (at_node e.place site));
    markup = λ m. part (markup_forms m);
    markup_attribute = λ a. record { name = a.name; found = attribute_forms a };
    stmt = λ s. part (λ site. s.kind.found (at_node s.place site));
  }

  -- in each of the parts
  abbrev pub in_each : {T : Type 0} → (T → Part X) → List T → Site → X
  in_each forms parts = (all_of none join (map forms parts)).found

  abbrev pub in_optional : {T : Type 0} → (T → Part X) → Option T → Site → X
  in_optional forms part = (or_none none join (option_map forms part)).found
