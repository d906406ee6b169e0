mod Replies
mod Moves
mod Told
mod Stages
