-- A network's step on tables of its own is the local step. Assumes nothing.
use Rattle.std.proofs.Common.{Result, ◌≡◌, ℕ, Bool, List, ◌++◌, sym, ap, ◌∙◌, subst}
use Rattle.relations.specs.Sound.{networks}
use Rattle.selection.specs.Paths.{row}
use Rattle.selection.specs.declared.set.NetworkSet.{NetworkSet}
use Rattle.selection.specs.declared.world.World.{World as Lent}
use Rattle.selection.specs.Worlds.{world_of}
use Rattle.advertisement.specs.Updates.{block_of, news}
use Rattle.advertisement.specs.declared.update.Update.{Update as Message}
use Rattle.links.specs.Answers.{Answered, TurnAnswered}
use Rattle.links.specs.Held.{audiences_of, blocks_of, held, links_up, number_of as router_number, world_for}
use Rattle.links.specs.Made.{Same}
use Rattle.links.specs.declared.router.Router.{Router}
use Rattle.links.specs.declared.tables.Tables.{Tables}
use Rattle.model.specs.Hearing.{after_hearing, after_turning}
use Rattle.model.specs.Lists.{gather}
use Rattle.model.specs.Local.{Local}
use Rattle.model.specs.World.{World}
use Rattle.model.specs.declared.fault.Fault.{Fault}
use Rattle.simulation.specs.Posting.{told_by}
use Rattle.advertisement.specs.Telling.{in_audience}
use Rattle.simulation.specs.Posts.{Post, mail, mailing, posts}
use Rattle.simulation.specs.Whole.{Heard, Turned, blocks_in, local, number_of, sent_to, turned_to, world_at}
use Rattle.simulation.specs.declared.letter.Letter.{Letter}
use Rattle.simulation.specs.declared.network.Network.{Network}
use Rattle.simulation.proofs.Mailed.{heard_mail, turned_mail}
use Rattle.simulation.proofs.Posted.{told_all}

pub same_held : (r : Router) (t u : Tables) → Same t u → held r u ≡ held r t
same_held r t u s = λ x. record { up = links_up r; received = λ b k. s.received b k x; advertised = λ b k. s.advertised b k x }

module _ (world : Lent) (x : Network) (own then : Tables) (same : Same x.tables own) (kept : blocks_of then ≡ blocks_of own) where
  place : world_for world own ≡ world_at world x
  place = ap (world_of world) same.blocks

  blocks_kept : blocks_of then ≡ blocks_in x
  blocks_kept = kept ∙ same.blocks

  module _ (from : ℕ) (m : Message) (heard : Result NetworkSet Fault) (holds : held x.router then ≡ after_hearing (world_for world own) (number_of x) from (news m) (held x.router own)) (answer : Answered (world_for world own) (number_of x) (held x.router own) from (news m) heard) where
    here : held x.router then ≡ after_hearing (world_at world x) (number_of x) from (news m) (local x)
    here = holds ∙ (λ y. after_hearing (place y) (number_of x) from (news m) (same_held x.router x.tables own same y))

    answered : Answered (world_at world x) (number_of x) (local x) from (news m) heard
    answered = subst {A = World × Local} (λ z. Answered z.0 (number_of x) z.1 from (news m) heard) (λ y. (place y, same_held x.router x.tables own same y)) answer

    pub heard_step : (router : Router) (before after : List Letter) → router ≡ x.router → posts after ≡ posts before ++ mailing (router_number router) (block_of m) (told_by heard) (row then.advertised (block_of m)) (networks world.relations.now) → Heard world x from (news m) before after (record { router = router; tables = then })
    heard_step router before after e sent = record {
      number = ap router_number e;
      blocks = blocks_kept;
      holds = ap (λ z. held z then) e ∙ here;
      letters = sent ∙ (λ y. posts before ++ mailing (router_number (e y)) (block_of m) (told_by heard) (row then.advertised (block_of m)) (networks world.relations.now)) ∙ ap (λ l. posts before ++ l) (heard_mail (world_at world x) (number_of x) from (news m) (local x) heard (row then.advertised (block_of m)) answered (λ k. ap (λ s. s.advertised (block_of m) k) here));
    }

  module _ (other : ℕ) (up : Bool) (router : Router) (turned : Result (Unit {0}) Fault) (holds : held router then ≡ after_turning (world_for world own) (number_of x) other up (held x.router own)) (answer : TurnAnswered (world_for world own) (number_of x) (held x.router own) other up (audiences_of then) turned) where
    turned_here : held router then ≡ turned_to world x other up
    turned_here = holds ∙ (λ y. after_turning (place y) (number_of x) other up (same_held x.router x.tables own same y))

    turn_answered : TurnAnswered (world_at world x) (number_of x) (local x) other up (audiences_of then) turned
    turn_answered = subst {A = World × Local} (λ z. TurnAnswered z.0 (number_of x) z.1 other up (audiences_of then) turned) (λ y. (place y, same_held x.router x.tables own same y)) answer

    abbrev all_mailed : ℕ → ℕ → List Post
    all_mailed me blocks = told_all turned (gather (λ b. mailing me b (in_audience (audiences_of then) b) (row then.advertised b) (networks world.relations.now)) blocks)

    turned_mailing : all_mailed (number_of x) (blocks_of then) ≡ mail (number_of x) (sent_to world x other up)
    turned_mailing =
        ap (all_mailed (number_of x)) blocks_kept ∙
        turned_mail (world_at world x) (number_of x) other up (local x) (audiences_of then) turned (row then.advertised) (sym then.audiences.ok.0 ∙ then.whom ∙ blocks_kept) turn_answered (λ b k. ap (λ s. s.advertised b k) turned_here)

    pub turned_step : (before after : List Letter) → router_number router ≡ number_of x → posts after ≡ posts before ++ all_mailed (router_number router) (blocks_of then) → Turned world x other up before after (record { router = router; tables = then })
    turned_step before after number sent = record {
      number = number;
      blocks = blocks_kept;
      holds = turned_here;
      letters = sent ∙ (λ y. posts before ++ all_mailed (number y) (blocks_of then)) ∙ ap (λ l. posts before ++ l) turned_mailing;
    }
