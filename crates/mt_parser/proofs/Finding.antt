-- The tildes and dollars that the builder has found are derived.
use Rattle.std.proofs.Common.{◌≡◌, ℕ, ◌+◌, Bool, true, ◌&&◌, List, ◌∷◌, ◌++◌, map, length, refl, sym, ap, ◌∙◌, length-append}
use Rattle.std.specs.List.{All, list_all, range_with_len}
use Rattle.std.proofs.lemmas.Bool.{and_from}
use Rattle.std.proofs.lemmas.List.{map-append}
use Rattle.std.proofs.lemmas.List.Elements.{All-append, All-cons, All-nil}
use Rattle.std.proofs.lemmas.List.Folds.{list_all-map}
use Rattle.mt_tree.specs.declared.place.Place.{Place}
use Rattle.mt_syntax.specs.Derivation.{IsDerivedTilde}
use Rattle.mt_syntax.specs.Fold.{on_stmt}
use Rattle.mt_syntax.specs.Shape.{Part, all_fit, is_shaped_expr, shaping}
use Rattle.mt_syntax.specs.Tiers.{is_server_expr}
use Rattle.mt_syntax.specs.declared.program.Tilde.{Tilde}
use Rattle.mt_syntax.specs.declared.tree.Expr as syntax_expr
use Rattle.mt_grammar.specs.Tree.{Stmts}
use Rattle.mt_parser_builder.specs.declared.tier.Tier.TheVariants as tier
use Rattle.mt_parser_builder.specs.Found.{Found, dollar_made, next_tilde, tilde_made, within}
use Rattle.mt_parser_builder.specs.Program.{stmts_of}
use Rattle.mt_parser.proofs.Dollars.{dollars_are_numbered}
use Rattle.mt_parser.proofs.Numbers.{range_on}
use Rattle.mt_parser.proofs.Parts.{list_all_more}
use Rattle.mt_parser.proofs.Tiers.{client_code}

abbrev ids_of : List Tilde → List ℕ
ids_of tildes = map (λ t. t.id) tildes

-- the tildes are derived and numbered in order, and so are the dollars' expressions
pub record IsGood (s : Found) : Type 0 where
  pub tildes : All IsDerivedTilde s.tildes
  pub ids : ids_of s.tildes ≡ range_with_len s.before (length s.tildes)
  pub shaped : list_all is_shaped_expr s.dollars ≡ true
  pub server : list_all is_server_expr s.dollars ≡ true

-- what is made fits, and what was found stays good
pub record Made (fits : Bool) (s t : Found) : Type 0 where
  pub fit : fits ≡ true
  pub before : t.before ≡ s.before
  pub good : IsGood s → IsGood t

pub unchanged : {b : Bool} (s : Found) → b ≡ true → Made b s s
unchanged s h = record { fit = h; before = refl; good = λ g. g }

pub both : {b c : Bool} {s t u : Found} → Made b s t → Made c t u → Made (b && c) s u
both {b} {c} x y = record { fit = and_from b c x.fit y.fit; before = y.before ∙ x.before; good = λ g. y.good (x.good g) }

-- beside a test that holds
pub with_test : {b c : Bool} {s t : Found} → c ≡ true → Made b s t → Made (c && b) s t
with_test {b} {c} h x = record { fit = and_from c b h x.fit; before = x.before; good = x.good }

pub before_test : {b c : Bool} {s t : Found} → c ≡ true → Made b s t → Made (b && c) s t
before_test {b} {c} h x = record { fit = and_from b c x.fit h; before = x.before; good = x.good }

pub same : {b c : Bool} {s t : Found} → b ≡ c → Made b s t → Made c s t
same e x = record { fit = sym e ∙ x.fit; before = x.before; good = x.good }

-- ---- tildes

good_within : (s : Found) → IsGood (within s)
good_within s = record { tildes = All-nil IsDerivedTilde; ids = refl; shaped = refl; server = refl }

pub good_tilde : (p : Place) (ss : Stmts) (s : Found) → let r = stmts_of tier.Client ss (within s) in Made (all_fit (map (on_stmt shaping) r.0)) (within s) r.1 → IsGood s → IsGood (tilde_made p s r).1
good_tilde p ss s m g =
    let r = stmts_of tier.Client ss (within s) in
    let inner = m.good (good_within s) in
    let own : Tilde = record { id = next_tilde s; body = r.0; dollars = r.1.dollars } in
    let derived : IsDerivedTilde own = record {
      body = sym (list_all-map (λ (p : Part). p.fits) (on_stmt shaping) r.0) ∙ m.fit;
      client = client_code ss (within s);
      numbers = dollars_are_numbered ss s;
      dollars = inner.shaped;
      server = inner.server;
    } in record {
      tildes = All-append IsDerivedTilde s.tildes (own ∷ r.1.tildes) g.tildes (All-cons IsDerivedTilde own r.1.tildes derived inner.tildes);
      ids = map-append (λ (t : Tilde). t.id) s.tildes (own ∷ r.1.tildes)
          ∙ ap (λ l. ids_of s.tildes ++ next_tilde s ∷ l) (inner.ids ∙ ap (λ n. range_with_len n (length r.1.tildes)) m.before)
          ∙ ap (λ l. l ++ range_with_len (s.before + length s.tildes) (length (own ∷ r.1.tildes))) g.ids
          ∙ range_on s.before (length s.tildes) (length (own ∷ r.1.tildes))
          ∙ ap (range_with_len s.before) (sym (length-append s.tildes (own ∷ r.1.tildes)));
      shaped = g.shaped;
      server = g.server;
    }

-- ---- dollars

pub good_dollar : (p : Place) (e : syntax_expr.Expr) (t : Found) → is_shaped_expr e ≡ true → is_server_expr e ≡ true → IsGood t → IsGood (dollar_made tier.Client p (e, t)).1
good_dollar p e t shaped server g = record {
  tildes = g.tildes;
  ids = g.ids;
  shaped = list_all_more is_shaped_expr t.dollars e g.shaped shaped;
  server = list_all_more is_server_expr t.dollars e g.server server;
}
