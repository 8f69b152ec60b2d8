-- Laws of the plans' calls, each file on those above it. Those of one kind of title stand in padded/ and forward/.
pub mod Row
pub mod WhichWay
pub mod Unique
