-- What the contracts of this crate cite beside the definitions of `net`; `shortest` cites `Lists` too, and `building`
-- `Paths`. `OneProof` has the law by which a tree list's struct may carry a fact of `Paths`.
pub mod Lists
pub mod Hooks
pub mod Paths
pub mod OneProof
