-- The replies of a session in the plain server's run are those of its turns.
use Rattle.std.proofs.Common.{◌≡◌, ℕ, zero, suc, List, [], ◌∷◌, ◌++◌, map, refl, sym, ◌∙◌, ap, subst, Bool, true, false, cond}
use Rattle.std.proofs.Common.{append-nil, append_assoc}
use Rattle.std.specs.Prelude.{◌==◌, Option, Some, None, option_map}
use Rattle.std.specs.Option.{option_to_list}
use Rattle.std.proofs.lemmas.Bool.{eqb-true}
use Rattle.model.specs.Stream.{Octets}
use Rattle.model.specs.Service.{news_service}
use Rattle.model.specs.Spool.{Spool}
use Rattle.model.specs.declared.change.Change.{Change}
use Rattle.model.specs.declared.message.Mark.{Mark}
use Rattle.model.specs.declared.message.Message.{Message}
use Rattle.model.specs.declared.session.Session.{Session}
use Rattle.synchrony.specs.Server.{Admin, Command, Connection, Entry, run, served, step, taken}
use Rattle.model_rfc.specs.States.{AreTurns, EachMayCome, MayCome, answered}
use Rattle.model_rfc.specs.Serving.{Turn}
use Rattle.model_rfc.specs.Serving.{Server, turn_of, turns_of}

abbrev pub reply_to : Octets → Turn → Octets
reply_to host turn = (answered host turn).reply

-- the spool only grows
record Grows (S R : Spool) : Type 0 where
  more : Spool
  is : R ≡ S ++ more

grows_by : (S R : Spool) (more : Spool) → Grows S R → Grows S (R ++ more)
grows_by S R more grown = record { more = grown.more ++ more; is = ap (λ (T : Spool). T ++ more) grown.is ∙ append_assoc S grown.more more }

-- each turn of a list may come, so the first and the later ones
first_comes : (host : Octets) (turn : Turn) (turns : List Turn) → EachMayCome host (turn ∷ turns) → MayCome host turn
first_comes host turn turns may = may zero turn refl

later_come : (host : Octets) (turn : Turn) (turns : List Turn) → EachMayCome host (turn ∷ turns) → EachMayCome host turns
later_come host turn turns may = λ n next is. may (suc n) next is

module _ (host : Octets) (number : ℕ) where
  -- the connection of this session after a message of another, or of its own
  abbrev after : Server → ℕ → ℕ → Mark → Message × Octets → Bool → Connection Session
  after server session moment mark next b =
      let a = answered host (turn_of server session moment mark next) in
      cond b (record { session = a.next; pending = next.1; replies = (server.connections session).replies ++ a.reply ∷ [] })
      (server.connections number)

  -- the turns that an entry makes
  abbrev made : Server → ℕ → ℕ → Mark → Option (Message × Octets) → Bool → List Turn
  made server session moment mark o b = cond b (option_to_list (option_map (turn_of server session moment mark) o)) []

  abbrev then_served : Server → ℕ → ℕ → Mark → Option (Message × Octets) → Server
  then_served server session moment mark o = served (news_service host) server session moment mark o

  -- turns of the first entry before those of the others
  served_turns : (S : Spool) (server : Server) (session moment : ℕ) (mark : Mark) (rest : List Turn) → Grows S server.spool
      → (o : Option (Message × Octets)) (b : Bool) → (number == session) ≡ b
      → EachMayCome host (made server session moment mark o b ++ rest)
      → ((T : Spool) → Grows T (then_served server session moment mark o).spool → EachMayCome host rest
      → AreTurns host T ((then_served server session moment mark o).connections number).session rest)
      → AreTurns host S (server.connections number).session (made server session moment mark o b ++ rest)
  served_turns S server session moment mark rest grown None true same may later = later S grown may
  served_turns S server session moment mark rest grown None false same may later = later S grown may
  served_turns S server session moment mark rest grown (Some next) true same may later =
      let here : number ≡ session = eqb-true number session same in
      let turn : Turn = turn_of server session moment mark next in
      let tail : AreTurns host server.spool (answered host turn).next rest =
      subst (λ (c : Connection Session). AreTurns host server.spool c.session rest)
      (ap (λ c. after server session moment mark next c) same)
      (later server.spool (record { more = option_to_list (answered host turn).change; is = refl }) (later_come host turn rest may)) in
      (first_comes host turn rest may, ap (λ k. (server.connections k).session) (sym here), (grown.more, grown.is), tail)
  served_turns S server session moment mark rest grown (Some next) false other may later =
      let turn : Turn = turn_of server session moment mark next in
      subst (λ (c : Connection Session). AreTurns host S c.session rest) (ap (λ c. after server session moment mark next c) other)
      (later S (grows_by S server.spool (option_to_list (answered host turn).change) grown) may)

  turns_are : (S : Spool) (server : Server) (trace : List (Entry Change Mark)) → Grows S server.spool
      → EachMayCome host (turns_of host server trace number)
      → AreTurns host S (server.connections number).session (turns_of host server trace number)
  turns_are S server [] grown may = tt
  turns_are S server (Admin change ∷ trace) grown may =
      turns_are S (step (news_service host) server (Admin change)) trace (grows_by S server.spool (change ∷ []) grown) may
  turns_are S server (Command session moment mark ∷ trace) grown may =
      served_turns S server session moment mark (turns_of host (step (news_service host) server (Command session moment mark)) trace number)
      grown
      (taken (news_service host) server session) (number == session) refl may
      (λ T still rest. turns_are T (step (news_service host) server (Command session moment mark)) trace still rest)

  -- ---- the replies

  abbrev said : Server → List Octets
  said server = (server.connections number).replies

  served_said : (server : Server) (session moment : ℕ) (mark : Mark) (rest : List Turn) (o : Option (Message × Octets)) (b : Bool)
      → (number == session) ≡ b
      → said (then_served server session moment mark o) ++ map (reply_to host) rest
      ≡ said server ++ map (reply_to host) (made server session moment mark o b ++ rest)
  served_said server session moment mark rest None true same = refl
  served_said server session moment mark rest None false same = refl
  served_said server session moment mark rest (Some next) true same =
      let turn : Turn = turn_of server session moment mark next in
      ap (λ c. (after server session moment mark next c).replies ++ map (reply_to host) rest) same
      ∙ append_assoc (server.connections session).replies (reply_to host turn ∷ []) (map (reply_to host) rest)
      ∙ ap (λ k. (server.connections k).replies ++ reply_to host turn ∷ map (reply_to host) rest) (sym (eqb-true number session same))
  served_said server session moment mark rest (Some next) false other =
      ap (λ c. (after server session moment mark next c).replies ++ map (reply_to host) rest) other

  run_said : (server : Server) (trace : List (Entry Change Mark))
      → said (run (news_service host) server trace) ≡ said server ++ map (reply_to host) (turns_of host server trace number)
  run_said server [] = sym (append-nil (said server))
  run_said server (Admin change ∷ trace) = run_said (step (news_service host) server (Admin change)) trace
  run_said server (Command session moment mark ∷ trace) =
      run_said (step (news_service host) server (Command session moment mark)) trace
      ∙ served_said server session moment mark (turns_of host (step (news_service host) server (Command session moment mark)) trace number)
      (taken (news_service host) server session) (number == session) refl

pub opened_turns : (host : Octets) (server : Server) (trace : List (Entry Change Mark)) (number : ℕ)
    → EachMayCome host (turns_of host server trace number)
    → AreTurns host server.spool (server.connections number).session (turns_of host server trace number)
opened_turns host server trace number may =
    turns_are host number server.spool server trace (record { more = []; is = sym (append-nil server.spool) }) may

pub opened_said : (host : Octets) (server : Server) (trace : List (Entry Change Mark)) (number : ℕ)
    → ((run (news_service host) server trace).connections number).replies
    ≡ (server.connections number).replies ++ map (reply_to host) (turns_of host server trace number)
opened_said host server trace number = run_said host number server trace
