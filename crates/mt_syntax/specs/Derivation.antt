-- Which programs the grammar derives from a source. Nothing is said of the places of the nodes.
use Rattle.std.specs.Prelude.{◌≡◌, true, map, length}
use Rattle.std.specs.List.{All, list_all}
use Rattle.mt_syntax.specs.Numbering.{AreNumbers, dollars_of, tildes_of}
use Rattle.mt_syntax.specs.Shape.{is_shaped, is_shaped_expr}
use Rattle.mt_syntax.specs.Tiers.{is_client_code, is_server_code, is_server_expr}
use Rattle.mt_syntax.specs.declared.program.Program.{Program}
use Rattle.mt_syntax.specs.declared.program.Tilde.{Tilde}

-- A tilde has client code, whose dollars are numbered in text order and have expressions of server code.
pub record IsDerivedTilde (t : Tilde) : Type 0 where
  pub body : is_shaped t.body ≡ true
  pub client : is_client_code t.body ≡ true
  pub numbers : AreNumbers (dollars_of t.body) (length t.dollars)
  pub dollars : list_all is_shaped_expr t.dollars ≡ true
  pub server : list_all is_server_expr t.dollars ≡ true

-- A program has server code, and its tildes, wherever they stand, are numbered in text order.
pub record IsDerived (p : Program) : Type 0 where
  pub items : is_shaped p.items ≡ true
  pub server : is_server_code p.items ≡ true
  pub tildes : All IsDerivedTilde p.tildes
  pub numbers : AreNumbers (tildes_of p) (length p.tildes)
  pub ids : AreNumbers (map (λ t. t.id) p.tildes) (length p.tildes)
