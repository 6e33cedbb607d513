-- The turns of a session in a trace that is marked as a server gives marks.
use Rattle.std.proofs.Common.{◌≡◌, ◌≢◌, ℕ, zero, suc, Bool, true, false, cond, List, [], ◌∷◌, ◌++◌, Option, Some, None, refl, ap, sym, ◌∙◌, subst}
use Rattle.std.proofs.Common.{arith}
use Rattle.std.specs.Prelude.{◌==◌, ◌≤◌, ◌<◌, length, option_map, is_some, slice_get, take, drop, nat_le, if◌then◌else◌}
use Rattle.std.specs.Option.{option_to_list}
use Rattle.std.proofs.lemmas.Bool.{true≢false, false≢true}
use Rattle.std.proofs.lemmas.List.{length-append}
use mathlib.Core.List.{IsPrefix}
use Rattle.model.specs.Answer.{answer, is_long, is_long_by}
use Rattle.model.specs.Lawful.{IsLawful, IsLawfulAfter}
use Rattle.model.specs.Service.{mode_of, news_service}
use Rattle.model.specs.Spool.{Spool}
use Rattle.model.specs.Stream.{Octets, message_length, message_of, next}
use Rattle.model.specs.declared.change.Change.{Change}
use Rattle.model.specs.declared.message.Mark.{Mark}
use Rattle.model.specs.declared.message.Mark.TheVariants as mark
use Rattle.model.specs.declared.message.Message.{Message}
use Rattle.model.specs.declared.message.Message.TheVariants as message
use Rattle.model.specs.declared.message.Mode.{Mode}
use Rattle.model.specs.declared.message.Mode.TheVariants as mode
use Rattle.model.specs.declared.session.Awaits.{Awaits}
use Rattle.model.specs.declared.session.Awaits.TheVariants as awaits
use Rattle.model.specs.declared.session.Session.{Session}
use Rattle.model.proofs.ServiceLaws.{news_blocks_change}
use Rattle.synchrony.specs.Framing.{next_in}
use Rattle.synchrony.specs.Server.{Admin, Command, Entry, opened, run, served, step, taken}
use Rattle.synchrony.proofs.Fronts.{prefix_front, prefix_self, prefix_trans}
use Rattle.model_rfc.specs.Laws.{MarkedTurnsMayCome}
use Rattle.model_rfc.specs.Marks.{EachIsMarked, MayMark}
use Rattle.model_rfc.specs.Serving.{Server, turn_of, turns_of}
use Rattle.model_rfc.specs.States.{EachMayCome, IsSpool, MayCome, can_come}
use Rattle.model_rfc.specs.Serving.{Turn}

-- ---- the kind of a message

abbrev is_of : Mode → Message → Bool
is_of mode.Line (message.Block text) = false
is_of mode.Block (message.Line text) = false
is_of m other = true

line_or_long : (b : Bool) (text : Octets) → is_of mode.Line (if b then message.Line text else message.TooLong) ≡ true
line_or_long true text = refl
line_or_long false text = refl

block_or_long : (b : Bool) (text : Octets) → is_of mode.Block (if b then message.Block text else message.TooLong) ≡ true
block_or_long true text = refl
block_or_long false text = refl

kind_of : (m : Mode) (front : Octets) → is_of m (message_of m front) ≡ true
kind_of mode.Line front = line_or_long _ _
kind_of mode.Block front = block_or_long _ _

next_kind : (m : Mode) (stream : Octets) (found : Message × Octets) → next m stream ≡ Some found → is_of m found.0 ≡ true
next_kind m stream found is = go (message_length m stream) is
  where
    at : ℕ → Message × Octets
    at n = (message_of m (take n stream), drop n stream)

    pick : Option (Message × Octets) → Message
    pick None = found.0
    pick (Some other) = other.0

    first : (n : ℕ) → Some (at n) ≡ Some found → message_of m (take n stream) ≡ found.0
    first n e = ap pick e

    go : (o : Option ℕ) → option_map at o ≡ Some found → is_of m found.0 ≡ true
    go None e = absurd (cc e)
    go (Some n) e = subst (λ k. is_of m k ≡ true) (first n e) (kind_of m (take n stream))

-- ---- the mark of a message

line_comes : (m : Message) (which : Mark) → is_of mode.Line m ≡ true → which ≢ mark.Long → which ≢ mark.Full
    → can_come awaits.Line m which ≡ true
line_comes (message.Block text) which is not_long not_full = absurd (false≢true is)
line_comes (message.Line text) mark.Served is not_long not_full = refl
line_comes (message.Line text) mark.Full is not_long not_full = absurd (not_full refl)
line_comes (message.Line text) mark.Long is not_long not_full = absurd (not_long refl)
line_comes (message.Line text) mark.Stopped is not_long not_full = refl
line_comes message.TooLong mark.Served is not_long not_full = refl
line_comes message.TooLong mark.Full is not_long not_full = absurd (not_full refl)
line_comes message.TooLong mark.Long is not_long not_full = absurd (not_long refl)
line_comes message.TooLong mark.Stopped is not_long not_full = refl

post_comes : (m : Message) (which : Mark) → is_of mode.Block m ≡ true → can_come awaits.PostBlock m which ≡ true
post_comes (message.Line text) which is = absurd (false≢true is)
post_comes (message.Block text) which is = refl
post_comes message.TooLong which is = refl

ihave_comes : (id : Octets) (m : Message) (which : Mark) → is_of mode.Block m ≡ true → which ≢ mark.Long
    → can_come (awaits.IhaveBlock id) m which ≡ true
ihave_comes id (message.Line text) which is not_long = absurd (false≢true is)
ihave_comes id (message.Block text) mark.Served is not_long = refl
ihave_comes id (message.Block text) mark.Full is not_long = refl
ihave_comes id (message.Block text) mark.Long is not_long = absurd (not_long refl)
ihave_comes id (message.Block text) mark.Stopped is not_long = refl
ihave_comes id message.TooLong mark.Served is not_long = refl
ihave_comes id message.TooLong mark.Full is not_long = refl
ihave_comes id message.TooLong mark.Long is not_long = absurd (not_long refl)
ihave_comes id message.TooLong mark.Stopped is not_long = refl

-- a line makes no change
line_unchanged : (host : Octets) (S : Spool) (x : Session) (m : Message) (t : ℕ) → is_of mode.Line m ≡ true
    → (answer host S x m t mark.Served).change ≡ None
line_unchanged host S x m t is =
    news_blocks_change host S x m t mark.Served
    (λ text e. true≢false (sym is ∙ ap (is_of mode.Line) e))

long_by : (host : Octets) (S : Spool) (x : Session) (m : Message) (A : Awaits) → x.awaits ≡ A → is_long host S x m ≡ true
    → is_long_by host S A m ≡ true
unfolding is_long
long_by host S x m A same is = subst (λ B. is_long_by host S B m ≡ true) same is

comes : (host : Octets) (S : Spool) (x : Session) (t : ℕ) (which : Mark) (octets : Octets) (found : Message × Octets) (A : Awaits)
    → x.awaits ≡ A → next_in next (mode_of A) octets ≡ Some found → MayMark host S x found.0 t which → can_come A found.0 which ≡ true
comes host S x t which octets found awaits.Line same is may =
    let kind = next_kind mode.Line octets found is in
    line_comes found.0 which kind (λ long. false≢true (long_by host S x found.0 awaits.Line same (may.long long)))
    (λ full. true≢false (sym (may.full full) ∙ ap (λ o. is_some o) (line_unchanged host S x found.0 t kind)))
comes host S x t which octets found awaits.PostBlock same is may = post_comes found.0 which (next_kind mode.Block octets found is)
comes host S x t which octets found (awaits.IhaveBlock id) same is may =
    ihave_comes id found.0 which (next_kind mode.Block octets found is)
    (λ long. false≢true (long_by host S x found.0 (awaits.IhaveBlock id) same (may.long long)))
comes host S x t which octets found awaits.Nothing same is may = absurd (cc is)

-- ---- the spool of a turn

lawful_front : (host : Octets) (R cs ds : Spool) → IsLawfulAfter host R (cs ++ ds) → IsLawfulAfter host R cs
lawful_front host R [] ds lawful = tt
lawful_front host R (c ∷ cs) ds lawful = (lawful.0, lawful_front host (R ++ c ∷ []) cs ds lawful.1)

pub spool_front : (host : Octets) (S T : Spool) → IsPrefix S T → IsSpool host T → IsSpool host S
spool_front host S T front is = record {
  of_host = is.of_host;
  lawful = lawful_front host [] S front.0 (subst (IsLawful host) (sym front.1) is.lawful);
  few = omega (arith, is.few, ap (λ (R : Spool). length R) front.1, length-append S front.0);
}

module _ (host : Octets) where
  served_grows : (server : Server) (session moment : ℕ) (which : Mark) (o : Option (Message × Octets))
      → IsPrefix server.spool (served (news_service host) server session moment which o).spool
  served_grows server session moment which None = prefix_self server.spool
  served_grows server session moment which (Some found) = prefix_front server.spool _

  pub run_grows : (server : Server) (trace : List (Entry Change Mark)) → IsPrefix server.spool (run (news_service host) server trace).spool
  run_grows server [] = prefix_self server.spool
  run_grows server (Admin change ∷ trace) =
      prefix_trans server.spool (server.spool ++ change ∷ []) (run (news_service host) server (Admin change ∷ trace)).spool
      (prefix_front server.spool (change ∷ [])) (run_grows (step (news_service host) server (Admin change)) trace)
  run_grows server (Command session moment which ∷ trace) =
      prefix_trans server.spool (step (news_service host) server (Command session moment which)).spool
      (run (news_service host) server (Command session moment which ∷ trace)).spool
      (served_grows server session moment which (taken (news_service host) server session))
      (run_grows (step (news_service host) server (Command session moment which)) trace)

  -- ---- the turns

  none_come : EachMayCome host []
  none_come n turn is = absurd (cc is)

  one_more_comes : (turn : Turn) (rest : List Turn) → MayCome host turn → EachMayCome host rest → EachMayCome host (turn ∷ rest)
  one_more_comes turn rest may all zero other is = let same : turn ≡ other = cc is in subst (MayCome host) same may
  one_more_comes turn rest may all (suc n) other is = all n other is

  entry_comes : (server : Server) (session moment : ℕ) (which : Mark) (o : Option (Message × Octets)) (b : Bool) (rest : List Turn)
      → ((found : Message × Octets) → o ≡ Some found → MayCome host (turn_of server session moment which found)) → EachMayCome host rest
      → EachMayCome host (cond b (option_to_list (option_map (turn_of server session moment which) o)) [] ++ rest)
  entry_comes server session moment which o false rest may all = all
  entry_comes server session moment which None true rest may all = all
  entry_comes server session moment which (Some found) true rest may all =
      one_more_comes (turn_of server session moment which found) rest (may found refl) all

  turns_come : (server : Server) (trace : List (Entry Change Mark)) (number : ℕ)
      → IsSpool host (run (news_service host) server trace).spool → EachIsMarked host server trace
      → EachMayCome host (turns_of host server trace number)
  turns_come server [] number is marked = none_come
  turns_come server (Admin change ∷ trace) number is marked =
      turns_come (step (news_service host) server (Admin change)) trace number is marked.1
  turns_come server (Command session moment which ∷ trace) number is marked =
      entry_comes server session moment which (taken (news_service host) server session) (number == session)
      (turns_of host (step (news_service host) server (Command session moment which)) trace number)
      (λ found at. record {
        spool = spool_front host server.spool (run (news_service host) server (Command session moment which ∷ trace)).spool
            (run_grows server (Command session moment which ∷ trace)) is;
        moment = marked.0.0;
        message = comes host server.spool (server.connections session).session moment which (server.connections session).pending found
            (server.connections session).session.awaits refl at (marked.0.1 found at);
      })
      (turns_come (step (news_service host) server (Command session moment which)) trace number is marked.1)

pub marked_turns_come : MarkedTurnsMayCome
marked_turns_come host spool inputs trace session is marked =
    turns_come host (opened (news_service host) spool inputs) trace session is marked
