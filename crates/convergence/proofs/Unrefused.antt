-- A proper update over a link that is up is not refused. Assumes nothing.
use Rattle.std.proofs.Common.{◌≡◌, ℕ, ◌<◌, true, length, Some, None, refl, arith}
use Rattle.std.proofs.lemmas.Bool.{le-ltb, lt-leb, ne_eqb, not_from_true, or_from}
use Rattle.model.specs.Hearing.{hearing_fault}
use Rattle.model.specs.Local.{Update, Local}
use Rattle.model.specs.Promise.{ProperSaying}
use Rattle.model.specs.Relations.{related}
use Rattle.model.specs.Selection.{Said}
use Rattle.model.specs.World.{World}
use Rattle.model.specs.declared.limits.TheConstants.{MOST_NETWORKS}
use Rattle.model.proofs.Faults.{Faultless, none_refused}

module _ (w : World) (j : ℕ) (l : Local) (i block : ℕ) (hi : i < w.n) (hb : block < w.blocks) (tied : related (w.rel j i) ≡ true) (up : l.up i ≡ true) where
  good : (says : Said) → ProperSaying w j i block says → Faultless w j l i (record { block = block; says = says })
  good None h =
      record {
        length = refl;
        within = refl;
        port = lt-leb w.n i hi;
        block = lt-leb w.blocks block hb;
        related = not_from_true _ tied;
        up = not_from_true _ up;
        first = refl;
        last = refl;
        once = refl;
        paid = refl;
      }
  good (Some p) h =
      record {
        length = or_from _ _ (ne_eqb (length p.networks) 0 (λ e. let z = h.some in omega arith)) (le-ltb MOST_NETWORKS (length p.networks) h.short);
        within = not_from_true _ h.within;
        port = lt-leb w.n i hi;
        block = lt-leb w.blocks block hb;
        related = not_from_true _ tied;
        up = not_from_true _ up;
        first = not_from_true _ h.first;
        last = not_from_true _ h.last;
        once = h.once;
        paid = not_from_true _ h.paid;
      }

pub not_refused : (w : World) (j : ℕ) (l : Local) (i : ℕ) (u : Update) → i < w.n → u.block < w.blocks → related (w.rel j i) ≡ true → l.up i ≡ true → ProperSaying w j i u.block u.says → hearing_fault w j l i u ≡ None
not_refused w j l i u hi hb tied up h = none_refused w j l i u (good w j l i u.block hi hb tied up u.says h)
