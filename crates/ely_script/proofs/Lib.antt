mod Joins
mod NamesRead
mod RestLemmas
