-- The laws of the service that the program serves. A crate that builds on the service imports them from here, as it
-- imports the definitions from specs/News.antt.

-- it keeps what the theory asks of a service
pub use Rattle.model.proofs.ServiceLaws.{news_lawful as lawful}
-- only a block makes a change
pub use Rattle.model.proofs.ServiceLaws.{news_blocks_change as only_blocks_change}
-- a server that stopped says so, closes the session, and accepts nothing
pub use Rattle.model.proofs.ServiceLaws.{news_stopped as stopped_answer}
