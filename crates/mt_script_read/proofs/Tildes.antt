-- What is read from the texts of a tilde of an accepted program.
use Rattle.std.proofs.Common.{◌≡◌, ℕ, suc, List, drop, take, length, refl, sym, ap, ◌∙◌, subst as put}
use Rattle.std.proofs.lemmas.List.Elements.{All-get_or}
use Rattle.std.proofs.lemmas.Option.{get_or_from_slice_get, slice_get_within}
use Rattle.mt_tree.specs.declared.data.Data.{Data}
use Rattle.mt_syntax.specs.Derivation.{IsDerivedTilde}
use Rattle.mt_syntax.specs.Numbering.{values_of}
use Rattle.mt_syntax.specs.Substitution.{subst}
use Rattle.mt_syntax.specs.declared.program.Tilde.{Tilde}
use Rattle.mt_syntax.specs.declared.tree.Stmt.{Stmt}
use Rattle.mt_syntax_laws.specs.Blanked.{blanked}
use Rattle.mt_syntax_laws.proofs.Injection.{only_values_differ, values_of_code}
use Rattle.mt_stage.proofs.Limits.{within_limits}
use Rattle.mt_script_read.specs.Differing.{DifferAt}
use Rattle.mt_script_read.specs.Fills.{Fills, IsAcceptedTilde, IsReadWith}
use Rattle.mt_script_read.proofs.OneText.{one_text}

module _ (t : Tilde) where
  derived_tilde : IsAcceptedTilde t → IsDerivedTilde t
  derived_tilde a =
      put IsDerivedTilde (get_or_from_slice_get a.program.tildes a.number t t a.stands)
      (All-get_or IsDerivedTilde a.program.tildes a.number t (slice_get_within a.program.tildes a.number t a.stands) a.accepted.within.derived.tildes)

  pub values_of_tilde : (values : List Data) → IsAcceptedTilde t → length values ≡ length t.dollars → values_of (subst values t.body) ≡ values
  values_of_tilde values a enough = values_of_code t values (derived_tilde a) enough

  pub tilde_is_read : (values : List Data) → Fills t values → IsReadWith t values (subst values t.body)
  tilde_is_read values f =
      let a = f.accepted in
      record { filled = f; reads = record { within = within_limits a.program a.number t values a.accepted a.stands f.enough f.small; text = refl } }

  pub tilde_alone_is_read : (values : List Data) (code : List Stmt) → IsReadWith t values code → code ≡ subst values t.body
  tilde_alone_is_read values code r = one_text code (subst values t.body) r.reads.within.code (tilde_is_read values r.filled).reads.within.code r.reads.text

  values_read : (values : List Data) (code : List Stmt) → IsReadWith t values code → values_of code ≡ values
  values_read values code r = ap values_of (tilde_alone_is_read values code r) ∙ values_of_tilde values r.filled.accepted r.filled.enough

  pub codes_differ_in_values : (ds es : List Data) (code other : List Stmt) → IsReadWith t ds code → IsReadWith t es other
      → (blanked code ≡ blanked other) × ((values_of code ≡ ds) × (values_of other ≡ es))
  codes_differ_in_values ds es code other r o =
      let one = ap blanked (tilde_alone_is_read ds code r) in
      let two = ap blanked (tilde_alone_is_read es other o) in
      (one ∙ only_values_differ ds es (r.filled.enough ∙ sym o.filled.enough) t.body ∙ sym two, (values_read ds code r, values_read es other o))

  pub codes_differ_in_one_place : (i : ℕ) (ds es : List Data) (code other : List Stmt) → IsReadWith t ds code → IsReadWith t es other
      → DifferAt i ds es → (blanked code ≡ blanked other) × DifferAt i (values_of code) (values_of other)
  codes_differ_in_one_place i ds es code other r o d =
      let all = codes_differ_in_values ds es code other r o in
      let one = all.1.0 in
      let two = sym all.1.1 in
      (all.0, record { before = ap (take i) one ∙ d.before ∙ ap (take i) two; behind = ap (drop (suc i)) one ∙ d.behind ∙ ap (drop (suc i)) two })
