-- The laws that take a promise on three plain lists to the same promise on a lent list: after `take_in` (`Taking`), and of reading (`Laws`).
pub mod Taking
pub mod Laws
